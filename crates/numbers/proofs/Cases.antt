-- What a window of numbers holds, worked out by hand and computed.
use mathlib.Core.Path.{◌≡◌, refl}
use mathlib.Core.List.{[], ◌∷◌}
use Rattle.box_rules.specs.Numbers.{within}
use Rattle.numbers.specs.Code.{chosen}

-- from 2 on and below 4
pub window : chosen 2 4 (4 ∷ 3 ∷ 1 ∷ 2 ∷ 3 ∷ []) ≡ 3 ∷ 2 ∷ 3 ∷ []
unfolding within chosen
window = refl
