-- `basis::basis_three` meets its contract. Assumes nothing.
use mathlib.Core.Path.{◌≡◌, ap, ◌∙◌}
use mir.Syntax.{w64}
use mir.Facts.{to_z-of_z}
use Rattle.laws.proofs.Integers.{back}
use native.Mathlib.Omega.{arith}
use Rattle.merge_rules.specs.Pixels.{triple}
use Rattle.basis.specs.Code.{three_of}
use Rattle.merge_rules.specs.Steps.{recolour, first_centre, step_three, basis}
use Rattle.basis.proofs.Laws.{two_steps}
use Rattle.basis.proofs.basis_three.Goals as goal

pub recolour-t-requires : goal.recolour-t-requires
recolour-t-requires c = rw (back w64 c.wide.result c.wide.type_inv, back w64 c.wide-2.result c.wide-2.type_inv, back w64 c.wide-3.result c.wide-3.type_inv, back w64 c.first_centre.result c.first_centre.type_inv)
    (record { first_small = omega (arith, c.wide.ensures.1); second_small = omega (arith, c.wide-2.ensures.1); third_small = omega (arith, c.wide-3.ensures.1) }, c.first_centre.ensures.1)

pub matrixed-requires : goal.matrixed-requires
matrixed-requires c = rw (back w64 c.toned-first.result c.toned-first.type_inv, back w64 c.toned-second.result c.toned-second.type_inv, back w64 c.toned-third.result c.toned-third.type_inv)
    (record { first_small = c.toned-first.ensures.1; second_small = c.toned-second.ensures.1; third_small = c.toned-third.ensures.1 })

pub returns : goal.returns
unfolding basis
returns c = let recoloured : three_of c.recolour-t.result ≡ recolour c.args.s.base_transform (first_centre c.args.s.rh) (triple c.args.y c.args.cb c.args.cr) = c.recolour-t.ensures.0 ∙ rw (back w64 c.wide.result c.wide.type_inv, back w64 c.wide-2.result c.wide-2.type_inv, back w64 c.wide-3.result c.wide-3.type_inv, back w64 c.first_centre.result c.first_centre.type_inv, c.wide.ensures.0, c.wide-2.ensures.0, c.wide-3.ensures.0, c.first_centre.ensures.0, to_z-of_z c.ranges.y, to_z-of_z c.ranges.cb, to_z-of_z c.ranges.cr) in (
  c.matrixed.ensures.0
      ∙ rw (back w64 c.toned-first.result c.toned-first.type_inv, back w64 c.toned-second.result c.toned-second.type_inv, back w64 c.toned-third.result c.toned-third.type_inv, c.toned-first.ensures.0, c.toned-second.ensures.0, c.toned-third.ensures.0, back w64 c.recolour-t.result.first c.struct_told-1.given.0.1, back w64 c.recolour-t.result.second c.struct_told-1.given.1.0.1, back w64 c.recolour-t.result.third c.struct_told-1.given.1.1.0.1)
      (ap (step_three c.args.s) (two_steps c.args.s c.args.table.now (triple c.args.y c.args.cb c.args.cr) c.recolour-t.result.first c.recolour-t.result.second c.recolour-t.result.third (recoloured))),
  c.matrixed.ensures.1,
)
