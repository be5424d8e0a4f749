-- `kernel::row_sum` meets its contract: behind u products the sum is that of u. Assumes nothing.
use mathlib.Core.Path.{◌≡◌, sym, ◌∙◌}
use Prim.Native.Nat.{◌+◌, ◌≤◌}
use native.Mathlib.Omega.{arith}
use lib.IntN.{◌+ℤ◌}
use mir.Syntax.{w64}
use mir.Val.{to_z, of_z}
use mir.Facts.{to_z-of_z}
use Rattle.laws.specs.Index.{sum_to}
use Rattle.laws.proofs.Integers.{fit_in, back}
use Rattle.laws.proofs.Sums.{sum_none, sum_turn, sum_end}
use Rattle.transform_rules.specs.Samples.{product, row_sum}
use Rattle.kernel.proofs.Bounds.{row_small}
use Rattle.kernel.proofs.row_sum.Goals as goal

pub loop-u-init : goal.loop-u-init
loop-u-init c = sym (sum_none _)

more : (c : goal.After-product-sum) → to_z w64 c.loop-u.sum-bits +ℤ to_z w64 (of_z w64 c.product-sum.result) ≡ sum_to (c.loop-u.u + 1) (product c.args.s.now c.args.x c.args.y c.args.v)
more c = sum_turn _ _ c.loop-u.invariant (back w64 c.product-sum.result c.product-sum.type_inv ∙ c.product-sum.ensures)

pub overflow_add-sum : goal.overflow_add-sum
overflow_add-sum c = let u : c.loop-u.u + 1 ≤ 8 = omega arith in
    rw (more c) (fit_in w64 tt (row_small c.args.s.now c.requires.table_value.1 c.args.x c.args.y c.requires.x_bound.0 c.requires.x_bound.1.0 c.args.v _ c.requires.x_bound.1.1 u))

pub loop-u-preserved : goal.loop-u-preserved
loop-u-preserved c = to_z-of_z (overflow_add-sum c) ∙ more c

pub returns : goal.returns
unfolding row_sum
returns c = sum_end _ _ 8 c.loop-u.invariant c.loop-u.auto.u-end c.loop-u-test.false
