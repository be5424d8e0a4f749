-- `windows::mark` meets its contract.
use lib.Seq.{set_out}
use Rattle.windows.specs.Code.{marked}
use borrow.Author.Tests.{le-leb, lt-leb}
use mathlib.Core.Path.{◌≡◌}
use Prim.Native.Nat.{◌+◌, ◌-◌}
use native.Mathlib.Omega.{arith}
use Rattle.windows.proofs.mark.Goals as goal

pub returns-then-number-passed : goal.returns-then-number-passed
unfolding marked
returns-then-number-passed c = rw (le-leb _ _ c.if-number-passed.true)

pub returns-then-i-places : goal.returns-then-i-places
unfolding marked
returns-then-i-places c = let e : c.args.number - 1 - c.args.passed ≡ c.args.number - (c.args.passed + 1) = omega arith in rw (lt-leb _ _ c.if-number-passed.false, e)

pub returns-else-i-places : goal.returns-else-i-places
unfolding marked
returns-else-i-places c = let e : c.args.number - 1 - c.args.passed ≡ c.args.number - (c.args.passed + 1) = omega arith in rw (lt-leb _ _ c.if-number-passed.false, set_out c.args.places.now (c.args.number - (c.args.passed + 1)) c.args.at (omega arith))
