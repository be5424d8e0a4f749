-- `basis::transform` meets its contract. Assumes nothing.
use mathlib.Core.Path.{◌≡◌, ◌∙◌}
use Prim.Native.Nat.{◌≤◌}
use native.Mathlib.Omega.{arith}
use lib.IntN.{nat_abs, ◌-ℤ◌}
use mir.Syntax.{w64}
use mir.Val.{to_z, of_z}
use mir.Facts.{to_z-of_z}
use Rattle.laws.proofs.Integers.{back}
use Rattle.merge_rules.specs.Steps.{transform, tints}
use Rattle.basis.proofs.transform.Goals as goal

-- what the three calls of `tinted` are given, read back
module _ (c : goal.After-less-cr) where
  y-read : to_z w64 (of_z w64 c.args.t.first) ≡ c.args.t.first
  y-read = back w64 c.args.t.first c.struct_told-1.given.0.1

  cb-read : to_z w64 (of_z w64 c.less-cb.result) ≡ c.less-cb.result
  cb-read = back w64 c.less-cb.result c.less-cb.type_inv

  cr-read : to_z w64 (of_z w64 c.less-cr.result) ≡ c.less-cr.result
  cr-read = back w64 c.less-cr.result c.less-cr.type_inv

  small : (nat_abs (to_z w64 (of_z w64 c.args.t.first)) ≤ 549755846656) × ((nat_abs (to_z w64 (of_z w64 c.less-cb.result)) ≤ 549755846656) × (nat_abs (to_z w64 (of_z w64 c.less-cr.result)) ≤ 549755846656))
  small = rw (y-read, cb-read, cr-read) (omega (arith, c.requires.0.first_small), (c.less-cb.ensures.1, c.less-cr.ensures.1))

  cb-is : c.less-cb.result ≡ c.args.t.second -ℤ c.args.centre
  cb-is = c.less-cb.ensures.0 ∙ rw (back w64 c.args.t.second c.struct_told-1.given.1.0.1, to_z-of_z c.ranges.centre)

  cr-is : c.less-cr.result ≡ c.args.t.third -ℤ c.args.centre
  cr-is = c.less-cr.ensures.0 ∙ rw (back w64 c.args.t.third c.struct_told-1.given.1.1.0.1, to_z-of_z c.ranges.centre)

pub tinted-red-requires : goal.tinted-red-requires
tinted-red-requires c = record { l_bound = (omega arith, omega arith); y_bound = small c }

pub tinted-green-requires : goal.tinted-green-requires
tinted-green-requires c = record { l_bound = (omega arith, omega arith); y_bound = small c.before }

pub tinted-blue-requires : goal.tinted-blue-requires
tinted-blue-requires c = record { l_bound = (omega arith, omega arith); y_bound = small c.before.before }

pub returns : goal.returns
unfolding transform tints
returns c =
    let r = c.tinted-red in
    let g = c.tinted-green in
    let b = c.tinted-blue in
    let l = c.before.before.before in
    rw (back w64 r.result r.type_inv, back w64 g.result g.type_inv, back w64 b.result b.type_inv) (
      rw (r.ensures.0, g.ensures.0, b.ensures.0, y-read l, cb-read l ∙ cb-is l, cr-read l ∙ cr-is l),
      record { first_small = r.ensures.1; second_small = g.ensures.1; third_small = b.ensures.1 },
    )
