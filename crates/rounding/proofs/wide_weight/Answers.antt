-- `rounding::wide_weight` meets its contract. Assumes nothing.
use mathlib.Core.Path.{refl}
use native.Mathlib.Omega.{arith}
use lib.Signed.{nat_abs-le}
use mir.Syntax.{w16, w64}
use Rattle.laws.proofs.Integers.{widens, widened}
use Rattle.rounding.proofs.wide_weight.Goals as goal

pub overflow_cast-result : goal.overflow_cast-result
overflow_cast-result c = widens w16 w64 tt c.ranges.x

pub returns : goal.returns
returns c = rw (widened w16 w64 tt c.ranges.x) (refl, omega (arith, nat_abs-le c.args.x c.ranges.x.sfits))
