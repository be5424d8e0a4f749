-- `basis::recolour` meets its contract. Assumes nothing.
use mathlib.Core.Path.{◌∙◌}
use native.Mathlib.Omega.{arith}
use mir.Facts.{to_z-of_z}
use Rattle.merge_rules.specs.Steps.{recolour}
use Rattle.basis.proofs.recolour.Goals as goal

pub returns-in-Identity : goal.returns-in-Identity
unfolding recolour
returns-in-Identity c = (rw c.in-Identity.is, record { first_small = omega (arith, c.requires.0.first_small); second_small = omega (arith, c.requires.0.second_small); third_small = omega (arith, c.requires.0.third_small) })

pub returns-in-Transform : goal.returns-in-Transform
unfolding recolour
returns-in-Transform c = (rw c.in-Transform.is (c.transform.ensures.0 ∙ rw (to_z-of_z c.ranges.centre)), c.transform.ensures.1)
