-- `previews::fill_rows` meets its contract: behind p quantisers the first p are there. Assumes nothing.
use borrow.Author.Rules.{rules}
use mathlib.Core.Path.{◌≡◌, sym, ap, ◌∙◌}
use mathlib.Core.List.{List}
use Prim.Native.Nat.{ℕ, ◌<◌}
use native.Mathlib.Omega.{arith}
use lib.ListN.{length, get_or}
use Rattle.laws.proofs.Fill.{front_start, front_turn, front_end}
use Rattle.transform_rules.specs.Zigzag.{zigzag_at, zigzag_order}
use Rattle.transform_rules.proofs.Lengths.{zigzag_small}
use Rattle.previews.specs.Code.{row_table}
use Rattle.previews.proofs.Tables.{order_at, order_long}
use Rattle.previews.proofs.fill_rows.Invariants.{row_of}
use Rattle.previews.proofs.fill_rows.Goals as goal

pub loop-p-init : goal.loop-p-init
loop-p-init c = sym (front_start c.args.rows.now (row_of c.args.quantisers.now))

-- the index that is read from the order
module _ (order : List ℕ) (e : order ≡ zigzag_order) (p : ℕ) (h : p < length order) where
  below : p < 64
  below = omega (arith, ap length e, order_long)

  index_is : get_or order p 0 ≡ zigzag_at p
  index_is = ap (λ (l : List ℕ). get_or l p 0) e ∙ order_at p below

  index-small : get_or order p 0 < 64
  index-small = rw index_is (zigzag_small p below)

pub offset_bounds-quantisers-z : goal.offset_bounds-quantisers-z
offset_bounds-quantisers-z c = let h = index-small c.args.order.now c.requires.0 c.loop-p.p c.loop-p-test.true in search rules

pub bounds-quantisers-z : goal.bounds-quantisers-z
bounds-quantisers-z c = let h = index-small c.args.order.now c.requires.0 c.loop-p.p c.loop-p-test.true in omega (arith, c.requires.1.0.tabled)

pub bounds-rows-p : goal.bounds-rows-p
bounds-rows-p c = omega (arith, c.requires.1.1, below c.args.order.now c.requires.0 c.loop-p.p c.loop-p-test.true)

pub loop-p-preserved : goal.loop-p-preserved
loop-p-preserved c = let room : c.loop-p.p < length c.args.rows.now = omega (arith, c.requires.1.1, below c.args.order.now c.requires.0 c.loop-p.p c.loop-p-test.true) in
    rw (index_is c.args.order.now c.requires.0 c.loop-p.p c.loop-p-test.true, c.loop-p.invariant) (front_turn c.args.rows.now (row_of c.args.quantisers.now) c.loop-p.p room)

pub returns : goal.returns
unfolding row_table
returns c = let e : c.loop-p.p ≡ 64 = omega (arith, ap length c.requires.0, order_long) in
    c.loop-p.invariant ∙ rw e (front_end c.args.rows.now (row_of c.args.quantisers.now) 64 c.requires.1.1)
