-- Weights, what is owed and the call at chosen numbers, worked out by hand; the quantisers of T.81's Table K.1 by a program apart. Assumes nothing.
use mathlib.Core.Path.{◌≡◌, refl}
use mathlib.Core.List.{List, [], ◌∷◌, map, ◌++◌}
use Prim.Native.Nat.{ℕ}
use lib.ListN.{take, drop, replicate}
use Rattle.laws.specs.Index.{total_to, tab, every}
use Rattle.laws.specs.Apart.{apart_rounded}
use Rattle.laws.specs.First.{first_fail, or_here}
use Rattle.answers.specs.Verdict.{given, refused, refusal}
use Rattle.transform_rules.specs.Cosines.{nine_cosines, half_turn, full_turn, kernel}
use Rattle.transform_rules.specs.Zigzag.{first_row, last_row, places_before, zigzag}
use Rattle.transform_rules.specs.Call.{is_quantiser, first_bad_quantiser}
use Rattle.preview_rules.specs.Owed.{weight, owed, owed_block}
use Rattle.preview_rules.specs.Call.{preview_owes}

-- 1000 at zigzag index 1 (u 1) and 1 at index 2 (v 1), as (row, column): 8035 x 5793 x 1000 + 5793 x 8035 in the corners, whatever the signs; 1598 for 8035 in column 3, and in row 3
pub weights : map (λ (p : ℕ × ℕ). weight (0 ∷ 1000 ∷ 1 ∷ []) p.0 p.1) ((0, 0) ∷ (7, 0) ∷ (0, 7) ∷ (0, 3) ∷ (3, 0) ∷ [])
    ≡ 46593301755 ∷ 46593301755 ∷ 46593301755 ∷ 9303760755 ∷ 46556012214 ∷ []
unfolding weight total_to zigzag places_before first_row last_row kernel full_turn half_turn nine_cosines
weights = refl

-- quantisers 1, in each place: the sum of all |K(x,u)| is 43284, its square 6.979 times 2^28. So 0, 6.98 + 1.5, 20.94 + 2.5, 48.86 + 4.5, 104.69 + 8.5 and never the next number
pub by_planes : map (λ left. owed left (replicate 64 1) 3 5) (0 ∷ 1 ∷ 2 ∷ 3 ∷ 4 ∷ []) ≡ 0 ∷ 8 ∷ 23 ∷ 53 ∷ 113 ∷ []
unfolding owed apart_rounded weight total_to zigzag places_before first_row last_row kernel full_turn half_turn nine_cosines
by_planes = refl

-- one quantiser of 100: at zigzag index 1 the columns differ (first row, and the last place), at index 2 the rows (last row)
pub by_places : (take 8 (owed_block 1 (1 ∷ 100 ∷ replicate 62 1)) ++ drop 63 (owed_block 1 (1 ∷ 100 ∷ replicate 62 1)) ≡ 25 ∷ 23 ∷ 18 ∷ 11 ∷ 11 ∷ 18 ∷ 23 ∷ 25 ∷ 25 ∷ [])
    × (drop 56 (owed_block 1 (1 ∷ 1 ∷ 100 ∷ replicate 61 1)) ≡ replicate 8 25)
unfolding owed_block tab owed apart_rounded weight total_to zigzag places_before first_row last_row kernel full_turn half_turn nine_cosines
by_places = (refl, refl)

-- T.81, Table K.1, in zigzag order
pub luminance : List ℕ
luminance =
    16 ∷ 11 ∷ 12 ∷ 14 ∷ 12 ∷ 10 ∷ 16 ∷ 14 ∷ 13 ∷ 14 ∷ 18 ∷ 17 ∷ 16 ∷ 19 ∷ 24 ∷ 40 ∷ 26 ∷ 24 ∷ 22 ∷ 22 ∷ 24 ∷ 49 ∷ 35 ∷ 37 ∷ 29 ∷ 40 ∷ 58 ∷ 51 ∷ 61 ∷ 60 ∷ 57 ∷ 51
    ∷ 56 ∷ 55 ∷ 64 ∷ 72 ∷ 92 ∷ 78 ∷ 64 ∷ 68 ∷ 87 ∷ 69 ∷ 55 ∷ 56 ∷ 80 ∷ 109 ∷ 81 ∷ 87 ∷ 95 ∷ 98 ∷ 103 ∷ 104 ∷ 103 ∷ 62 ∷ 77 ∷ 113 ∷ 121 ∷ 112 ∷ 100 ∷ 120 ∷ 92 ∷ 101 ∷ 103 ∷ 99 ∷ []

pub by_table : map (λ (p : ℕ × ℕ × ℕ). owed p.0 luminance p.1 p.2) ((1, 0, 0) ∷ (1, 1, 1) ∷ (4, 0, 0) ∷ (4, 0, 1) ∷ (4, 1, 0) ∷ (4, 1, 1) ∷ (4, 3, 4) ∷ [])
    ≡ 294 ∷ 446 ∷ 4396 ∷ 5532 ∷ 5653 ∷ 6679 ∷ 6441 ∷ []
unfolding luminance owed apart_rounded weight total_to zigzag places_before first_row last_row kernel full_turn half_turn nine_cosines
by_table = refl

-- ---- the call

-- each pair of refusals as one input with both faults: 5 planes and 63 quantisers, 63 quantisers and a bad one, a bad one at 8 and no room, no room; 4 planes and 255 are in range
pub one_fault_first : map (λ (p : ℕ × List ℕ). preview_owes p.0 p.1 63)
    ((5, replicate 63 1) ∷ (4, replicate 63 0) ∷ (0, replicate 65 1) ∷ (4, replicate 8 1 ++ (256 ∷ replicate 55 0)) ∷ (4, replicate 64 255) ∷ [])
    ≡ refused (refusal 20 0) ∷ refused (refusal 21 0) ∷ refused (refusal 21 0) ∷ refused (refusal 22 8) ∷ refused (refusal 9 64) ∷ []
unfolding preview_owes first_bad_quantiser is_quantiser every first_fail or_here owed_block tab
one_fault_first = refl

-- with room for 64 the numbers are handed out: nothing is owed by the full picture itself, and with quantisers 1 all places owe alike
pub handed_out : map (λ left. preview_owes left (replicate 64 1) 64) (0 ∷ 1 ∷ []) ≡ given (replicate 64 0) ∷ given (replicate 64 8) ∷ []
unfolding preview_owes first_bad_quantiser is_quantiser every first_fail or_here owed_block tab owed apart_rounded weight total_to zigzag places_before first_row last_row kernel full_turn half_turn nine_cosines
handed_out = refl
