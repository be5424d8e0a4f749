-- `numbers::tick` meets its contract.
use native.Mathlib.Omega.{arith}
use mathlib.Core.Path.{refl}
use Rattle.numbers.proofs.tick.Goals as goal

pub returns-then-flag : goal.returns-then-flag
returns-then-flag c = rw c.if-flag.true (refl, omega arith)

pub returns-else-flag : goal.returns-else-flag
returns-else-flag c = rw c.if-flag.false (refl, omega arith)
