-- `segments::barred` meets its contract.
use borrow.Author.Tests.{lt-ltb, le-ltb, lt-leb}
use Rattle.box_rules.specs.Walk.{barred}
use Rattle.segments.proofs.barred.Goals as goal

pub returns-then-b-lt2 : goal.returns-then-b-lt2
unfolding barred
returns-then-b-lt2 c = simp (lt-ltb _ _ c.if-b-lt2.true)

pub returns-then-b-ge208 : goal.returns-then-b-ge208
unfolding barred
returns-then-b-ge208 c = simp (le-ltb _ _ c.if-b-lt2.false, le-ltb _ _ c.if-b-ge208.true)

pub returns-else-b-ge208 : goal.returns-else-b-ge208
unfolding barred
returns-else-b-ge208 c = simp (le-ltb _ _ c.if-b-lt2.false, lt-ltb _ _ c.if-b-ge208.false, lt-leb _ _ c.if-b-ge208.false)
