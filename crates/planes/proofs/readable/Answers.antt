-- `planes::readable` meets its contract. Assumes nothing.
use mathlib.Core.Path.{sym}
use borrow.Author.Tests.{le-leb, lt-leb}
use Rattle.laws.specs.Index.{every}
use Rattle.laws.proofs.Tests.{every_last}
use Rattle.planes.proofs.readable.Goals as goal

pub returns-then-plane-lt1 : goal.returns-then-plane-lt1
unfolding every
returns-then-plane-lt1 c = rw (lt-leb _ _ c.if-plane-lt1.true)

pub returns-then-plane-gt4 : goal.returns-then-plane-gt4
unfolding every
returns-then-plane-gt4 c = rw (le-leb _ _ c.if-plane-lt1.false, lt-leb _ _ c.if-plane-gt4.true)

pub returns : goal.returns
unfolding every
returns c = rw (le-leb _ _ c.if-plane-lt1.false, le-leb _ _ c.if-plane-gt4.false) (sym (every_last _))
