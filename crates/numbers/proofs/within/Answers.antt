-- `numbers::within` meets its contract.
use Rattle.box_rules.specs.Numbers.{within}
use borrow.Author.Tests.{lt-ltb, le-ltb, lt-leb}
use Rattle.numbers.proofs.within.Goals as goal

pub returns-then-lo-x : goal.returns-then-lo-x
unfolding within
returns-then-lo-x c = rw (le-ltb _ _ c.if-lo-x.true)

pub returns-else-lo-x : goal.returns-else-lo-x
unfolding within
returns-else-lo-x c = simp (lt-ltb _ _ c.if-lo-x.false, lt-leb _ _ c.if-lo-x.false)
