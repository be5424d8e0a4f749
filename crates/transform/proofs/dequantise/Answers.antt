-- `transform::dequantise` meets its contract: behind p products the first p are there. Assumes nothing.
use native.Mathlib.Omega.{arith}
use mathlib.Core.Path.{◌≡◌, sym, ap, ◌∙◌}
use mathlib.Core.List.{List}
use Prim.Native.Nat.{ℕ, ◌<◌}
use lib.ListN.{length, get_or}
use mir.Syntax.{w32, w64}
use Rattle.laws.proofs.Integers.{back}
use Rattle.laws.proofs.Fill.{front_start, front_turn, front_end}
use Rattle.transform_rules.specs.Zigzag.{zigzag_at, zigzag_order}
use Rattle.transform_rules.specs.Picture.{dequantised}
use Rattle.transform_rules.proofs.Lengths.{zigzag_small}
use Rattle.transform.proofs.Tables.{order_long, order_at}
use Rattle.transform.proofs.dequantise.Invariants.{product-of}
use Rattle.transform.proofs.dequantise.Goals as goal

pub loop-p-init : goal.loop-p-init
loop-p-init c = sym (front_start c.args.s.now (product-of c.args.values.now c.args.quantisers.now c.args.block))

-- the index that is read from the order
module _ (order : List ℕ) (e : order ≡ zigzag_order) (p : ℕ) (h : p < length order) where
  below : p < 64
  below = omega (arith, ap length e, order_long)

  is-zigzag : get_or order p 0 ≡ zigzag_at p
  is-zigzag = ap (λ (l : List ℕ). get_or l p 0) e ∙ order_at p below

  small : get_or order p 0 < 64
  small = rw is-zigzag (zigzag_small p below)

pub overflow_add-i : goal.overflow_add-i
overflow_add-i c = omega (arith, small c.args.order.now c.requires.order_value.0 c.loop-p.p c.loop-p-test.true)

pub offset_bounds-values-i : goal.offset_bounds-values-i
offset_bounds-values-i c = omega (arith, small c.args.order.now c.requires.order_value.0 c.loop-p.p c.loop-p-test.true)

pub bounds-values-i : goal.bounds-values-i
bounds-values-i c = omega (arith, small c.args.order.now c.requires.order_value.0 c.loop-p.p c.loop-p-test.true)

pub offset_bounds-quantisers-z : goal.offset_bounds-quantisers-z
offset_bounds-quantisers-z c = omega (arith, small c.args.order.now c.requires.order_value.0 c.loop-p.p c.loop-p-test.true)

pub bounds-quantisers-z : goal.bounds-quantisers-z
bounds-quantisers-z c = omega (arith, small c.args.order.now c.requires.order_value.0 c.loop-p.p c.loop-p-test.true)

pub bounds-s-p : goal.bounds-s-p
bounds-s-p c = omega (arith, below c.args.order.now c.requires.order_value.0 c.loop-p.p c.loop-p-test.true)

pub loop-p-preserved : goal.loop-p-preserved
loop-p-preserved c = let room : c.loop-p.p < length c.args.s.now = omega (arith, below c.args.order.now c.requires.order_value.0 c.loop-p.p c.loop-p-test.true) in
    rw (back w64 c.times_quantiser-w.result c.times_quantiser-w.type_inv, c.times_quantiser-w.ensures, back w32 _ c.times_quantiser-arg-1.given, is-zigzag c.args.order.now c.requires.order_value.0 c.loop-p.p c.loop-p-test.true, c.loop-p.invariant) (front_turn c.args.s.now (product-of c.args.values.now c.args.quantisers.now c.args.block) c.loop-p.p room)

pub returns : goal.returns
unfolding dequantised
returns c = let e : c.loop-p.p ≡ 64 = omega (arith, ap length c.requires.order_value.0, order_long) in
    c.loop-p.invariant ∙ rw e (front_end c.args.s.now (product-of c.args.values.now c.args.quantisers.now c.args.block) 64 c.requires.order_value.1)
