-- The ranges (L3, L4) at both sides of each edge, and which index is DC, worked out by hand. Assumes nothing.
use mathlib.Core.Path.{◌≡◌, refl}
use mathlib.Core.Bool.{true, false}
use mathlib.Core.List.{[], ◌∷◌, ◌++◌, map}
use lib.IntN.{pos, negsuc}
use lib.ListN.{replicate}
use Rattle.laws.specs.First.{first_fail, or_here}
use Rattle.std.specs.Prelude.{Some, None}
use Rattle.levels.specs.Level.{in_level, is_dc, inside, first_outside, between}
use Rattle.levels.specs.declared.Part.TheVariants.{Dc, Ac, Whole}

-- "DC in -2^(11+j) to 2^(11+j)-1": at levels 0 and 4
pub dc_edges : map (in_level true 0) (pos 2047 ∷ pos 2048 ∷ negsuc 2047 ∷ negsuc 2048 ∷ []) ++ map (in_level true 4) (pos 32767 ∷ pos 32768 ∷ negsuc 32767 ∷ negsuc 32768 ∷ [])
    ≡ true ∷ false ∷ true ∷ false ∷ true ∷ false ∷ true ∷ false ∷ []
unfolding in_level
dc_edges = refl

-- "an AC value lies in -(2^(11+j)-1) to 2^(11+j)-1"
pub ac_edges : map (in_level false 0) (pos 2047 ∷ pos 2048 ∷ negsuc 2046 ∷ negsuc 2047 ∷ []) ++ map (in_level false 3) (pos 16383 ∷ pos 16384 ∷ negsuc 16382 ∷ negsuc 16383 ∷ [])
    ≡ true ∷ false ∷ true ∷ false ∷ true ∷ false ∷ true ∷ false ∷ []
unfolding in_level
ac_edges = refl

-- "64 a block for the transform, 1 for a DC plane, 63 for an AC plane"
pub dc_places : map (is_dc Whole) (0 ∷ 1 ∷ 63 ∷ 64 ∷ 65 ∷ 128 ∷ []) ++ (is_dc Dc 5 ∷ is_dc Ac 0 ∷ []) ≡ true ∷ false ∷ false ∷ true ∷ false ∷ true ∷ true ∷ false ∷ []
unfolding is_dc
dc_places = refl

-- "first index": -2048 is in the range of DC and not of AC
pub first_places : (first_outside Dc 0 (pos 0 ∷ negsuc 2047 ∷ pos 5000 ∷ negsuc 5000 ∷ []) ≡ Some 2)
    × (first_outside Ac 0 (pos 0 ∷ negsuc 2047 ∷ pos 5000 ∷ []) ≡ Some 1)
    × (first_outside Whole 0 (negsuc 2047 ∷ replicate 63 (pos 0) ++ (negsuc 2047 ∷ negsuc 2047 ∷ [])) ≡ Some 65)
    × (first_outside Ac 1 (pos 4095 ∷ []) ≡ None)
unfolding in_level is_dc inside first_outside first_fail or_here
first_places = (refl, refl, refl, refl)

-- between -3 and 2, neither of which is: the value at its index
pub betweens : map (between (negsuc 2) (pos 2) (negsuc 2 ∷ negsuc 1 ∷ pos 1 ∷ pos 2 ∷ [])) (0 ∷ 1 ∷ 2 ∷ 3 ∷ []) ≡ false ∷ true ∷ true ∷ false ∷ []
unfolding between
betweens = refl
