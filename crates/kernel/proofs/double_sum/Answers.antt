-- `kernel::double_sum` meets its contract: behind v rows the sum is that of v. Assumes nothing.
use mathlib.Core.Path.{◌≡◌, sym, ◌∙◌}
use Prim.Native.Nat.{◌+◌, ◌≤◌}
use native.Mathlib.Omega.{arith}
use lib.IntN.{◌+ℤ◌}
use mir.Syntax.{w64}
use mir.Val.{to_z, of_z}
use mir.Facts.{to_z-of_z}
use Rattle.laws.specs.Index.{sum_to}
use Rattle.laws.proofs.Integers.{fit_in, back}
use Rattle.laws.proofs.Sums.{sum_none, sum_turn, sum_end}
use Rattle.transform_rules.specs.Samples.{row_sum, double_sum}
use Rattle.kernel.proofs.Bounds.{rows_small}
use Rattle.kernel.proofs.double_sum.Goals as goal

pub loop-v-init : goal.loop-v-init
loop-v-init c = sym (sum_none _)

more : (c : goal.After-row_sum-sum) → to_z w64 c.loop-v.sum-bits +ℤ to_z w64 (of_z w64 c.row_sum-sum.result) ≡ sum_to (c.loop-v.v + 1) (row_sum c.args.s.now c.args.x c.args.y)
more c = sum_turn _ _ c.loop-v.invariant (back w64 c.row_sum-sum.result c.row_sum-sum.type_inv ∙ c.row_sum-sum.ensures)

pub overflow_add-sum : goal.overflow_add-sum
overflow_add-sum c = let v : c.loop-v.v + 1 ≤ 8 = omega arith in
    rw (more c) (fit_in w64 tt (rows_small c.args.s.now c.requires.table_value.1 c.args.x c.args.y c.requires.x_bound.0 c.requires.x_bound.1 _ v))

pub loop-v-preserved : goal.loop-v-preserved
loop-v-preserved c = to_z-of_z (overflow_add-sum c) ∙ more c

pub returns : goal.returns
unfolding double_sum
returns c = sum_end _ _ 8 c.loop-v.invariant c.loop-v.auto.v-end c.loop-v-test.false
