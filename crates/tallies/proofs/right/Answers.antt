-- `tallies::right` meets its contract. Assumes nothing.
use borrow.Author.Tests.{eq-eqb, ne_eqb}
use Rattle.test_rules.specs.Wanted.{right, nothing}
use Rattle.tallies.proofs.right.Goals as goal

pub returns-then-a-number : goal.returns-then-a-number
unfolding right
returns-then-a-number c = rw (ne_eqb _ _ c.if-a-number.true)

pub returns-then-a-place : goal.returns-then-a-place
unfolding right
returns-then-a-place c = rw (eq-eqb _ _ c.if-a-number.false, ne_eqb _ _ c.if-a-place.true)

pub returns-then-a-second : goal.returns-then-a-second
unfolding right
returns-then-a-second c = rw (eq-eqb _ _ c.if-a-number.false, eq-eqb _ _ c.if-a-place.false, ne_eqb _ _ c.if-a-second.true)

pub returns-in-Some : goal.returns-in-Some
unfolding right nothing
returns-in-Some c = rw (
  eq-eqb _ _ c.if-a-number.false,
  eq-eqb _ _ c.if-a-place.false,
  eq-eqb _ _ c.if-a-second.false,
  c.in-Some.is,
)

pub returns-in-None : goal.returns-in-None
unfolding right nothing
returns-in-None c = rw (
  eq-eqb _ _ c.if-a-number.false,
  eq-eqb _ _ c.if-a-place.false,
  eq-eqb _ _ c.if-a-second.false,
  c.in-None.is,
)
