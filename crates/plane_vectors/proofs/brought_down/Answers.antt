-- `plane_vectors::brought_down` is safe. Assumes nothing.
use mathlib.Core.Path.{◌≡◌}
use lib.IntN.{pos, neg_ℤ}
use mir.Syntax.{w32}
use mir.Val.{to_z}
use mir.Facts.{to_z_pos}
use Rattle.laws.proofs.Integers.{fit, abs_sum, abs_neg}
use native.Mathlib.Omega.{arith}
use Rattle.plane_vectors.proofs.brought_down.Goals as goal

pub overflow_sub-result : goal.overflow_sub-result
overflow_sub-result c = let x : to_z w32 c.args.x ≡ pos c.args.x = to_z_pos w32 (omega arith) in
    let y : to_z w32 c.args.above ≡ pos c.args.above = to_z_pos w32 (omega arith) in
    rw (x, y) (fit w32 (omega (arith, abs_sum (pos c.args.x) (neg_ℤ (pos c.args.above)), abs_neg (pos c.args.above))))
