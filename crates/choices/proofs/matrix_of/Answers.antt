-- `choices::matrix_of` meets its contract. Assumes nothing.
use borrow.Author.Tests.{eq-eqb, ne_eqb}
use Rattle.merge_rules.specs.Call.{matrix_of}
use Rattle.choices.proofs.matrix_of.Goals as goal

pub returns-in-1 : goal.returns-in-1
unfolding matrix_of
returns-in-1 c = rw (eq-eqb _ _ c.in-1.is)

pub returns-in_default : goal.returns-in_default
unfolding matrix_of
returns-in_default c = rw (ne_eqb _ _ c.in_default.in_default-own.rest.1)
