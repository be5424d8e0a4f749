-- `numbers::window_end` meets its contract: up to `good` the window fits, or is one number wide.
use mathlib.Core.Path.{refl}
use native.Mathlib.Omega.{arith}
use Rattle.numbers.proofs.window_end.Goals as goal

pub loop-good-init : goal.loop-good-init
loop-good-init c = (omega arith, omega arith, omega arith, λ n. absurd (n refl))
