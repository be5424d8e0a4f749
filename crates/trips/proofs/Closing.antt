-- A plane that closes well. Assumes nothing.
use mathlib.Core.Path.{◌≡◌}
use mathlib.Core.Bool.{true}
use mathlib.Core.List.{List}
use lib.IntN.{ℤ}
use Rattle.answers.specs.Verdict.{given}
use Rattle.bit_rules.specs.Source.{Source, only_padding}
use Rattle.plane_rules.specs.Plane.{Plane, read, closed}

-- a plane behind which only padding is left hands out its values
pub closed_well : (values : List ℤ) (u : Source) (p : Plane) → only_padding u ≡ true → p ≡ read values u → closed p ≡ given values
unfolding closed
closed_well values u p h e = rw (e, h)
