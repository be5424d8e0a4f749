-- `basis::tinted` meets its contract. Assumes nothing.
use mathlib.Core.Path.{◌∙◌}
use native.Mathlib.Omega.{arith}
use mir.Syntax.{w64}
use mir.Facts.{to_z-of_z}
use Rattle.laws.proofs.Integers.{back}
use Rattle.merge_rules.specs.Steps.{tinted}
use Rattle.basis.proofs.tinted.Goals as goal

pub whole-requires : goal.whole-requires
whole-requires c = rw (back w64 c.row-sum.result c.row-sum.type_inv) (omega (arith, c.row-sum.ensures.1))

pub returns : goal.returns
unfolding tinted
returns c = rw (back w64 c.whole.result c.whole.type_inv) (
  c.whole.ensures.0 ∙ rw (back w64 c.row-sum.result c.row-sum.type_inv, c.row-sum.ensures.0, to_z-of_z c.ranges.l, to_z-of_z c.ranges.m, to_z-of_z c.ranges.y, to_z-of_z c.ranges.cb, to_z-of_z c.ranges.cr),
  omega (arith, rw (back w64 c.row-sum.result c.row-sum.type_inv) at c.whole.ensures.1, c.row-sum.ensures.1),
)
