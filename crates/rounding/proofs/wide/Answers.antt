-- `rounding::wide` meets its contract. Assumes nothing.
use borrow.Author.Rules.{rules}
use mathlib.Core.Path.{refl}
use native.Mathlib.Omega.{arith}
use lib.Signed.{nat_abs-le}
use mir.Syntax.{w32, w64}
use Rattle.laws.proofs.Integers.{to64, widened}
use Rattle.rounding.proofs.wide.Goals as goal

pub overflow_cast-result : goal.overflow_cast-result
overflow_cast-result c = search (rules, to64)

pub returns : goal.returns
returns c = rw (widened w32 w64 tt c.ranges.x) (refl, omega (arith, nat_abs-le c.args.x c.ranges.x.sfits))
