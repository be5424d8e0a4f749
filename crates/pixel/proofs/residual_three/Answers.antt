-- `pixel::residual_three` meets its contract. Assumes nothing.
use mathlib.Core.Path.{◌∙◌}
use mir.Syntax.{w64}
use mir.Facts.{to_z-of_z}
use Rattle.laws.proofs.Integers.{back}
use Rattle.merge_rules.specs.Pixels.{each}
use Rattle.merge_rules.specs.Steps.{step_four}
use Rattle.pixel.proofs.residual_three.Goals as goal

pub returns : goal.returns
unfolding step_four each
returns c = (c.recolour.ensures.0 ∙ rw (back w64 c.scaled.result c.scaled.type_inv, back w64 c.scaled-2.result c.scaled-2.type_inv, back w64 c.scaled-3.result c.scaled-3.type_inv, back w64 c.centre_of.result c.centre_of.type_inv, c.scaled.ensures.0, c.scaled-2.ensures.0, c.scaled-3.ensures.0, c.centre_of.ensures.0, to_z-of_z c.ranges.a, to_z-of_z c.ranges.b, to_z-of_z c.ranges.c), c.recolour.ensures.1)
