-- `segments::held_at` meets its contract.
use borrow.Author.Tests.{lt-ltb, le-ltb}
use Rattle.segments.proofs.held_at.Goals as goal

pub returns-then-head : goal.returns-then-head
returns-then-head c = rw (lt-ltb _ _ c.if-head.true) c.broken.ensures

pub returns : goal.returns
returns c = rw (le-ltb _ _ c.if-head.false)
