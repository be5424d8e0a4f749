-- The places of a window, worked out by hand and computed: numbers below, in and past it.
use mathlib.Core.Path.{◌≡◌, refl}
use mathlib.Core.List.{[], ◌∷◌}
use Rattle.windows.specs.Code.{marked}

-- two places, for the numbers 3 and 4
pub noted : (marked 2 2 50 (7 ∷ 8 ∷ []) ≡ 7 ∷ 8 ∷ [])
    × (marked 2 3 50 (7 ∷ 8 ∷ []) ≡ 50 ∷ 8 ∷ [])
    × (marked 2 4 50 (7 ∷ 8 ∷ []) ≡ 7 ∷ 50 ∷ [])
    × (marked 2 5 50 (7 ∷ 8 ∷ []) ≡ 7 ∷ 8 ∷ [])
    × (marked 0 0 50 (7 ∷ 8 ∷ []) ≡ 7 ∷ 8 ∷ [])
    × (marked 0 1 50 (7 ∷ 8 ∷ []) ≡ 50 ∷ 8 ∷ [])
    × (marked 0 4294967295 50 (7 ∷ 8 ∷ []) ≡ 7 ∷ 8 ∷ [])
unfolding marked
noted = (refl, refl, refl, refl, refl, refl, refl)
