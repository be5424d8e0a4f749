-- `basis::weighted` meets its contract. Assumes nothing.
use mathlib.Core.Path.{◌≡◌, ap, ◌∙◌}
use Prim.Native.Nat.{◌+◌, ◌≤◌}
use native.Mathlib.Omega.{arith}
use lib.IntN.{pos, nat_abs}
use lib.ListN.{get_or}
use mir.Syntax.{w16, w64}
use mir.Val.{to_z, of_z}
use Rattle.laws.proofs.Integers.{back}
use Rattle.merge_rules.specs.Near.{row}
use Rattle.rounding.proofs.Laws.{row_small}
use Rattle.merge_rules.specs.Steps.{weighted}
use Rattle.basis.proofs.weighted.Goals as goal

pub row-sum-requires : goal.row-sum-requires
row-sum-requires c =
    let k = c.wide_weight-k in
    let l = c.wide_weight-l in
    let m = c.wide_weight-m in
    let p = c.requires.1 in
    record {
      k_bound = rw (back w64 k.result k.type_inv, back w64 l.result l.type_inv, back w64 m.result m.type_inv) (omega (arith, k.ensures.1), (omega (arith, l.ensures.1), omega (arith, m.ensures.1)));
      a_bound = rw (back w64 c.args.t.first c.struct_told-3-1.given.0.1, back w64 c.args.t.second c.struct_told-3-1.given.1.0.1, back w64 c.args.t.third c.struct_told-3-1.given.1.1.0.1) (omega (arith, p.first_small), (omega (arith, p.second_small), omega (arith, p.third_small)));
    }

pub nearest-requires : goal.nearest-requires
nearest-requires c = rw (back w64 c.row-sum.result c.row-sum.type_inv) (omega (arith, c.row-sum.ensures.1), omega arith)

-- what `row` is given, read back
module _ (c : goal.After-row-sum) where
  k-read : to_z w64 (of_z w64 c.wide_weight-k.result) ≡ get_or c.args.s.weights c.args.i (pos 0)
  k-read = back w64 c.wide_weight-k.result c.wide_weight-k.type_inv ∙ c.wide_weight-k.ensures.0 ∙ back w16 _ c.wide_weight-arg-1.given

  l-read : to_z w64 (of_z w64 c.wide_weight-l.result) ≡ get_or c.args.s.weights (c.args.i + 1) (pos 0)
  l-read = back w64 c.wide_weight-l.result c.wide_weight-l.type_inv ∙ c.wide_weight-l.ensures.0 ∙ back w16 _ c.wide_weight-arg-2-1.given

  m-read : to_z w64 (of_z w64 c.wide_weight-m.result) ≡ get_or c.args.s.weights (c.args.i + 2) (pos 0)
  m-read = back w64 c.wide_weight-m.result c.wide_weight-m.type_inv ∙ c.wide_weight-m.ensures.0 ∙ back w16 _ c.wide_weight-arg-3-1.given

  a_read : to_z w64 (of_z w64 c.args.t.first) ≡ c.args.t.first
  a_read = back w64 c.args.t.first c.struct_told-3-1.given.0.1

  b-read : to_z w64 (of_z w64 c.args.t.second) ≡ c.args.t.second
  b-read = back w64 c.args.t.second c.struct_told-3-1.given.1.0.1

  c_read : to_z w64 (of_z w64 c.args.t.third) ≡ c.args.t.third
  c_read = back w64 c.args.t.third c.struct_told-3-1.given.1.1.0.1

-- a weight has 16 bits and a number 33, so that their row is small
row_below : (c : goal.After-row-sum) → nat_abs c.row-sum.result ≤ 422212465065984
row_below c =
    let s = c in
    let k = c.wide_weight-k in
    let l = c.wide_weight-l in
    let m = c.wide_weight-m in
    let a = c.args.t in
    let p = c.requires.1 in
    let e : c.row-sum.result ≡ row k.result l.result m.result a.first a.second a.third =
    c.row-sum.ensures.0 ∙ rw (back w64 k.result k.type_inv, back w64 l.result l.type_inv, back w64 m.result m.type_inv, a_read s, b-read s, c_read s)
    in
    omega (
      arith,
      ap nat_abs e,
      row_small 32768 4294967296 k.result l.result m.result a.first a.second a.third k.ensures.1 l.ensures.1 m.ensures.1 p.first_small p.second_small p.third_small,
    )

pub returns : goal.returns
unfolding weighted
returns c =
    let r = c.row-sum in
    let n = c.nearest in
    let s = c.before in
    rw (back w64 n.result n.type_inv) (
      n.ensures.0 ∙ rw (back w64 r.result r.type_inv, r.ensures.0, k-read s, l-read s, m-read s, a_read s, b-read s, c_read s),
      omega (arith, rw (back w64 r.result r.type_inv) at n.ensures.1, row_below c.before),
    )
