-- `previews::along` meets its contract: behind k terms the sum is that of k. Assumes nothing.
use mathlib.Core.Path.{◌≡◌, sym}
use Prim.Native.Nat.{◌+◌, ◌*◌, ◌≤◌}
use native.Mathlib.Omega.{arith}
use lib.ListN.{get_or}
use Rattle.laws.specs.Index.{total_to}
use Rattle.laws.proofs.Totals.{total_none, total_turn, total_end}
use Rattle.previews.specs.Code.{magnitude, along}
use Rattle.previews.proofs.Weights.{terms_small}
use Rattle.previews.proofs.along.Goals as goal

pub loop-k-init : goal.loop-k-init
loop-k-init c = sym (total_none _)

pub overflow_add-sum : goal.overflow_add-sum
overflow_add-sum c = let more : (c.loop-k.sum + c.term-sum.result ≡ total_to (c.loop-k.k + 1) (λ i. magnitude c.args.x i * get_or c.args.numbers.now (c.args.v * 8 + i) 0)) = total_turn _ _ c.loop-k.invariant c.term-sum.ensures in
    let k : c.loop-k.k + 1 ≤ 8 = omega arith in
    omega (arith, more, terms_small 16711680 c.args.numbers.now c.requires.table_value.1.few c.args.x c.args.v _ (omega (arith, c.requires.x_bound.0)) k)

pub loop-k-preserved : goal.loop-k-preserved
loop-k-preserved c = total_turn _ _ c.loop-k.invariant c.term-sum.ensures

pub returns : goal.returns
unfolding along
returns c = total_end _ _ 8 c.loop-k.invariant c.loop-k.auto.k-end c.loop-k-test.false
