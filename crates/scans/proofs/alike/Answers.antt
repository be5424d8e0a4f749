-- `scans::alike` meets its contract.
use Rattle.box_rules.specs.Box.{alike}
use borrow.Author.Tests.{eq-eqb, ne_eqb}
use Rattle.scans.proofs.alike.Goals as goal

pub returns-then-not-flag : goal.returns-then-not-flag
returns-then-not-flag c = rw (c.if-not-flag.true)

pub returns-then-g-h : goal.returns-then-g-h
unfolding alike
returns-then-g-h c = rw (c.if-not-flag.false, eq-eqb _ _ c.if-g-h.true)

pub returns-else-g-h : goal.returns-else-g-h
unfolding alike
returns-else-g-h c = rw (c.if-not-flag.false, ne_eqb _ _ c.if-g-h.false)
