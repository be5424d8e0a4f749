-- `asking::type_of` meets its contract. Assumes nothing.
use Rattle.asking.specs.Words.{type_of}
use borrow.Author.Tests.{eq-eqb, ne_eqb}
use Rattle.asking.proofs.type_of.Goals as goal

pub returns-then-word-eq4 : goal.returns-then-word-eq4
unfolding type_of
returns-then-word-eq4 c = rw (eq-eqb _ _ c.if-word-eq4.true, ← c.from.ensures, ← c.from-then-word-eq4.ensures, ← c.from-then-word-eq4-2.ensures, ← c.from-then-word-eq4-3.ensures)

pub returns-then-word-eq8 : goal.returns-then-word-eq8
unfolding type_of
returns-then-word-eq8 c = rw (ne_eqb _ _ c.if-word-eq4.false, eq-eqb _ _ c.if-word-eq8.true) c.read_number.ensures

pub returns : goal.returns
unfolding type_of
returns c = rw (ne_eqb _ _ c.if-word-eq4.false, ne_eqb _ _ c.if-word-eq8.false)
