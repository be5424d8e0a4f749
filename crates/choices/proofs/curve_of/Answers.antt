-- `choices::curve_of` meets its contract. Assumes nothing.
use borrow.Author.Tests.{eq-eqb, ne_eqb}
use Rattle.merge_rules.specs.Call.{curve_of}
use Rattle.choices.proofs.curve_of.Goals as goal

pub returns-in-1 : goal.returns-in-1
unfolding curve_of
returns-in-1 c = rw (eq-eqb _ _ c.in-1.is)

pub returns-in-2 : goal.returns-in-2
unfolding curve_of
returns-in-2 c = rw c.in-2.is

pub returns-in_default : goal.returns-in_default
unfolding curve_of
returns-in_default c = rw (ne_eqb _ _ c.in_default.in_default-own.rest.0.1, ne_eqb _ _ c.in_default.in_default-own.rest.1)
