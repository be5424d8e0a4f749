-- The kernel, the double sum and the rounding at chosen numbers, worked out by hand from the rules and computed on the definitions. Assumes nothing.
use mathlib.Core.Path.{◌≡◌, refl}
use mathlib.Core.List.{List, [], ◌∷◌, map, ◌++◌}
use Prim.Native.Nat.{ℕ}
use lib.IntN.{ℤ, pos, negsuc}
use lib.ListN.{get_or, replicate}
use Rattle.laws.specs.Index.{sum_to, tab}
use Rattle.transform_rules.specs.Cosines.{nine_cosines, half_turn, full_turn, kernel, kernel_table}
use Rattle.transform_rules.specs.Samples.{product, row_sum, double_sum, rounded, sample, block_samples}

-- "8192, 8035, 7568, 6811, 5793, 4551, 3135, 1598, 0" for m = 0 to 8, and the same back with the other sign to 16
pub half_turn_lem : map half_turn (0 ∷ 1 ∷ 2 ∷ 3 ∷ 4 ∷ 5 ∷ 6 ∷ 7 ∷ 8 ∷ 9 ∷ 12 ∷ 16 ∷ [])
    ≡ pos 8192 ∷ pos 8035 ∷ pos 7568 ∷ pos 6811 ∷ pos 5793 ∷ pos 4551 ∷ pos 3135 ∷ pos 1598 ∷ pos 0 ∷ negsuc 1597 ∷ negsuc 5792 ∷ negsuc 8191 ∷ []
unfolding half_turn nine_cosines
half_turn_lem = refl

-- m and 32 - m have the same cosine: 16, 17, 24, 25, 31
pub full_turn_lem : map full_turn (16 ∷ 17 ∷ 24 ∷ 25 ∷ 31 ∷ []) ≡ negsuc 8191 ∷ negsuc 8034 ∷ pos 0 ∷ pos 1598 ∷ pos 8035 ∷ []
unfolding full_turn half_turn nine_cosines
full_turn_lem = refl

-- K(x,u) = cos((2x+1)u pi/16): (0,0), (7,0), (0,1), (7,1), (0,7), (1,3) at m 9, (3,2) at m 14, (5,4) at m 44, so 12, (4,6) at m 54, so 22
pub kernel_told : map (λ (p : ℕ × ℕ). kernel p.0 p.1) ((0, 0) ∷ (7, 0) ∷ (0, 1) ∷ (7, 1) ∷ (0, 7) ∷ (1, 3) ∷ (3, 2) ∷ (5, 4) ∷ (4, 6) ∷ [])
    ≡ pos 5793 ∷ pos 5793 ∷ pos 8035 ∷ negsuc 8034 ∷ pos 1598 ∷ negsuc 1597 ∷ negsuc 7567 ∷ negsuc 5792 ∷ negsuc 3134 ∷ []
unfolding kernel full_turn half_turn nine_cosines
kernel_told = refl

-- the table has K(x,u) at 8x + u: (0,1), (1,0), (1,1), (7,7)
pub table_told : map (λ k. get_or kernel_table k (pos 0)) (1 ∷ 8 ∷ 9 ∷ 63 ∷ []) ≡ pos 8035 ∷ pos 5793 ∷ pos 6811 ∷ negsuc 1597 ∷ []
unfolding kernel_table tab kernel full_turn half_turn nine_cosines
table_told = refl

-- S of 1000 at column frequency 1 and of 1 at row frequency 1
pub two : List ℤ
two = pos 0 ∷ pos 1000 ∷ pos 0 ∷ pos 0 ∷ pos 0 ∷ pos 0 ∷ pos 0 ∷ pos 0 ∷ pos 1 ∷ []

-- "K(x,u) K(y,v) S", "u the column frequency", at column 0 of row 7: 8035 x 5793 x 1000 and 5793 x -8035
pub products_apart : map (λ (p : ℕ × ℕ). product two 0 7 p.0 p.1) ((0, 1) ∷ (1, 0) ∷ (1, 1) ∷ []) ≡ pos 46546755000 ∷ negsuc 46546754 ∷ pos 0 ∷ []
unfolding two product kernel full_turn half_turn nine_cosines
products_apart = refl

-- "sum of K(x,u) K(y,v) S": the rows of frequencies 0 and 1, and all of them, at column 0 of row 7
pub sums : row_sum two 0 7 0 ∷ row_sum two 0 7 1 ∷ double_sum two 0 7 ∷ [] ≡ pos 46546755000 ∷ negsuc 46546754 ∷ pos 46500208245 ∷ []
unfolding two double_sum row_sum sum_to product kernel full_turn half_turn nine_cosines
sums = refl

-- to the last frequencies, at row 0, column 0: 1 at u 7, 10 at v 7 and 100 at both: 9257214 + 92572140 + 255360400
pub sums_to_the_end : double_sum (replicate 7 (pos 0) ++ (pos 1 ∷ replicate 48 (pos 0)) ++ (pos 10 ∷ replicate 6 (pos 0)) ++ (pos 100 ∷ [])) 0 0 ≡ pos 357189754
unfolding double_sum row_sum sum_to product kernel full_turn half_turn nine_cosines
sums_to_the_end = refl

-- "floor((sum of .. + 2^27) / 2^28) + 2^(7+R)" on both sides of a half and of minus a half, at the centre 256
pub halves_up : map (λ s. rounded s (pos 256)) (pos 134217727 ∷ pos 134217728 ∷ negsuc 134217727 ∷ negsuc 134217728 ∷ []) ≡ pos 256 ∷ pos 257 ∷ pos 256 ∷ pos 255 ∷ []
unfolding rounded
halves_up = refl

-- "The sample at row y, column x": 46500208245 / 2^28 is 173.2, and at column 7 of row 0, -46546755000 + 46546755, -173.2
pub samples_apart : map (λ (p : ℕ × ℕ). sample two (pos 256) p.0 p.1) ((0, 7) ∷ (7, 0) ∷ []) ≡ pos 429 ∷ pos 83 ∷ []
unfolding two sample rounded double_sum row_sum sum_to product kernel full_turn half_turn nine_cosines
samples_apart = refl

-- "a block's samples stand row by row": 1000 at column frequency 1 falls along a row, and the next row begins anew
pub row_by_row : map (λ p. get_or (block_samples (pos 0 ∷ pos 1000 ∷ []) (pos 256)) p (pos 0)) (0 ∷ 1 ∷ 7 ∷ 8 ∷ 63 ∷ []) ≡ pos 429 ∷ pos 403 ∷ pos 83 ∷ pos 429 ∷ pos 83 ∷ []
unfolding block_samples tab sample rounded double_sum row_sum sum_to product kernel full_turn half_turn nine_cosines
row_by_row = refl
