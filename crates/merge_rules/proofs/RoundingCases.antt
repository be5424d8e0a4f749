-- Rounding, clipping and weighing at their edges, worked out by hand from the rules and computed on the definitions. Assumes nothing.
use mathlib.Core.Path.{◌≡◌, refl}
use mathlib.Core.List.{[], ◌∷◌, map}
use lib.IntN.{pos, negsuc}
use Rattle.merge_rules.specs.Near.{nearest, clip, row, top}

-- halves go up for negative numbers too: -3/2, -1/2, 1/2, 3/2 to -1, 0, 1, 2
pub halves_up : map (λ t. nearest t 2) (negsuc 2 ∷ negsuc 0 ∷ pos 1 ∷ pos 3 ∷ []) ≡ negsuc 0 ∷ pos 0 ∷ pos 1 ∷ pos 2 ∷ []
unfolding nearest
halves_up = refl

-- to the nearest on both sides: -2/3, -1/3, 1/3, 2/3 to -1, 0, 0, 1
pub thirds : map (λ t. nearest t 3) (negsuc 1 ∷ negsuc 0 ∷ pos 1 ∷ pos 2 ∷ []) ≡ negsuc 0 ∷ pos 0 ∷ pos 0 ∷ pos 1 ∷ []
unfolding nearest
thirds = refl

-- "clip to 0 .. 255": -1, 0, 254, 255, 256
pub clipped : map (λ v. clip v 255) (negsuc 0 ∷ pos 0 ∷ pos 254 ∷ pos 255 ∷ pos 256 ∷ []) ≡ 0 ∷ 0 ∷ 254 ∷ 255 ∷ 255 ∷ []
unfolding clip
clipped = refl

-- each number has its own weight: -2 times 7, 3 times 11 and 5 times 13 are 84
pub weighed : row (negsuc 1) (pos 3) (pos 5) (pos 7) (pos 11) (pos 13) ≡ pos 84
unfolding row
weighed = refl

-- the largest numbers of 8, 9, 12 and 16 bits
pub tops : map top (0 ∷ 1 ∷ 4 ∷ 8 ∷ []) ≡ 255 ∷ 511 ∷ 4095 ∷ 65535 ∷ []
tops = refl
