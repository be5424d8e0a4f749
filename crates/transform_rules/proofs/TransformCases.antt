-- The whiteboard's case e (S5), each definition at its edges, and every pair of refusals that follow one another as one input with both faults, worked out by hand. Assumes nothing.
use mathlib.Core.Path.{◌≡◌, refl}
use mathlib.Core.Bool.{true, false}
use mathlib.Core.List.{List, [], ◌∷◌, map, ◌++◌}
use Prim.Native.Nat.{ℕ}
use lib.IntN.{ℤ, pos, negsuc}
use lib.ListN.{get_or, replicate}
use Rattle.laws.specs.Index.{sum_to, tab, join_to, every}
use Rattle.laws.specs.First.{first_fail, or_here}
use Rattle.std.specs.Prelude.{Some, None}
use Rattle.answers.specs.Verdict.{given, refused, refusal}
use Rattle.levels.specs.Level.{in_level, is_dc, inside, first_outside}
use Rattle.transform_rules.specs.Cosines.{nine_cosines, half_turn, full_turn, kernel}
use Rattle.transform_rules.specs.Samples.{product, row_sum, double_sum, rounded, sample, block_samples}
use Rattle.transform_rules.specs.Zigzag.{first_row, last_row, places_before, zigzag, zigzag_at, zigzag_order}
use Rattle.transform_rules.specs.Picture.{times_quantiser, dequantised, centre, picture}
use Rattle.transform_rules.specs.Call.{is_quantiser, first_bad_quantiser, inverse_transform}

-- "Only S at DC, R 0: 16 gives 130 everywhere": one block, each quantiser 1
pub case_e_lem : inverse_transform 0 1 (pos 16 ∷ replicate 63 (pos 0)) (replicate 64 1) 64 ≡ given (replicate 64 (pos 130))
unfolding sum_to tab join_to every first_fail or_here in_level is_dc inside first_outside nine_cosines half_turn full_turn kernel
    product row_sum double_sum rounded sample block_samples first_row last_row places_before zigzag zigzag_at times_quantiser dequantised centre picture
    is_quantiser first_bad_quantiser inverse_transform
case_e_lem = refl

-- "3 gives 128, 4 gives 129, -4 gives 127": the first and the last sample (the demands compute all of them)
pub case_e_corners : map (λ s. map (λ place. get_or (picture 0 1 (s ∷ []) (replicate 64 1)) place (pos 0)) (0 ∷ 63 ∷ [])) (pos 3 ∷ pos 4 ∷ negsuc 3 ∷ [])
    ≡ (pos 128 ∷ pos 128 ∷ []) ∷ (pos 129 ∷ pos 129 ∷ []) ∷ (pos 127 ∷ pos 127 ∷ []) ∷ []
unfolding sum_to tab join_to nine_cosines half_turn full_turn kernel product row_sum double_sum rounded sample block_samples
    first_row last_row places_before zigzag zigzag_at times_quantiser dequantised centre picture
case_e_corners = refl

-- ---- the definitions at their edges

-- T5: index 1 is u = 1, v = 0; index 2 is u = 0, v = 1 (T.81, Figure 5), and the corners
pub zigzag_told : map (λ (p : ℕ × ℕ). zigzag p.0 p.1) ((0, 0) ∷ (0, 1) ∷ (1, 0) ∷ (2, 0) ∷ (1, 1) ∷ (0, 2) ∷ (0, 7) ∷ (7, 0) ∷ (7, 6) ∷ (6, 7) ∷ (7, 7) ∷ [])
    ≡ 0 ∷ 1 ∷ 2 ∷ 3 ∷ 4 ∷ 5 ∷ 28 ∷ 35 ∷ 62 ∷ 61 ∷ 63 ∷ []
unfolding zigzag places_before first_row last_row
zigzag_told = refl

-- T.81, Figure 5, row by row as it is printed
pub zigzag_printed : zigzag_order ≡
    0 ∷ 1 ∷ 5 ∷ 6 ∷ 14 ∷ 15 ∷ 27 ∷ 28
    ∷ 2 ∷ 4 ∷ 7 ∷ 13 ∷ 16 ∷ 26 ∷ 29 ∷ 42
    ∷ 3 ∷ 8 ∷ 12 ∷ 17 ∷ 25 ∷ 30 ∷ 41 ∷ 43
    ∷ 9 ∷ 11 ∷ 18 ∷ 24 ∷ 31 ∷ 40 ∷ 44 ∷ 53
    ∷ 10 ∷ 19 ∷ 23 ∷ 32 ∷ 39 ∷ 45 ∷ 52 ∷ 54
    ∷ 20 ∷ 22 ∷ 33 ∷ 38 ∷ 46 ∷ 51 ∷ 55 ∷ 60
    ∷ 21 ∷ 34 ∷ 37 ∷ 47 ∷ 50 ∷ 56 ∷ 59 ∷ 61
    ∷ 35 ∷ 36 ∷ 48 ∷ 49 ∷ 57 ∷ 58 ∷ 62 ∷ 63
    ∷ []
unfolding zigzag_order tab zigzag_at zigzag places_before first_row last_row
zigzag_printed = refl

-- "Let S be the value times its quantiser."
pub times : times_quantiser (negsuc 2) 5 ≡ negsuc 14
unfolding times_quantiser
times = refl

-- two blocks of values 1, 2, 3, .. and 101, 102, 103, .. with the quantisers 1, 10, 100: zigzag index 1 stands at u 1, index 2 at v 1, which is place 8
pub dequantised_told : map (λ (p : ℕ × ℕ). get_or (dequantised ((pos 1 ∷ pos 2 ∷ pos 3 ∷ replicate 61 (pos 0)) ++ (pos 101 ∷ pos 102 ∷ pos 103 ∷ [])) (1 ∷ 10 ∷ 100 ∷ replicate 61 1) p.0) p.1 (pos 0))
    ((0, 0) ∷ (0, 1) ∷ (0, 8) ∷ (1, 0) ∷ (1, 1) ∷ (1, 8) ∷ []) ≡ pos 1 ∷ pos 20 ∷ pos 300 ∷ pos 101 ∷ pos 1020 ∷ pos 10300 ∷ []
unfolding dequantised tab times_quantiser zigzag_at zigzag places_before first_row last_row
dequantised_told = refl

-- "2^(7+R)"
pub centres : map centre (0 ∷ 1 ∷ 2 ∷ 3 ∷ 4 ∷ []) ≡ pos 128 ∷ pos 256 ∷ pos 512 ∷ pos 1024 ∷ pos 2048 ∷ []
unfolding centre
centres = refl

-- "quantiser entry not 1..255", "first index"
pub quantiser_edges : map is_quantiser (0 ∷ 1 ∷ 255 ∷ 256 ∷ []) ≡ false ∷ true ∷ true ∷ false ∷ []
unfolding is_quantiser every
quantiser_edges = refl

pub quantiser_first : map first_bad_quantiser ((1 ∷ 255 ∷ 256 ∷ []) ∷ (1 ∷ 0 ∷ 256 ∷ []) ∷ (1 ∷ 255 ∷ []) ∷ []) ≡ Some 2 ∷ Some 1 ∷ None ∷ []
unfolding first_bad_quantiser is_quantiser first_fail or_here every
quantiser_first = refl

-- at R 1: 32 times 32 at zigzag index 1 alone, so at u 1: 8035 x 5793 x 1024 / 2^28 is 177.6 at column 0, and -177.6 at column 7, in each row; at index 2 it is in each column
pub columns_and_rows : map (λ (p : List ℤ × ℕ). get_or (picture 1 1 p.0 (replicate 64 32)) p.1 (pos 0))
    ((pos 0 ∷ pos 32 ∷ [], 0) ∷ (pos 0 ∷ pos 32 ∷ [], 7) ∷ (pos 0 ∷ pos 32 ∷ [], 56) ∷ (pos 0 ∷ pos 0 ∷ pos 32 ∷ [], 0) ∷ (pos 0 ∷ pos 0 ∷ pos 32 ∷ [], 7) ∷ (pos 0 ∷ pos 0 ∷ pos 32 ∷ [], 56) ∷ [])
    ≡ pos 434 ∷ pos 78 ∷ pos 434 ∷ pos 434 ∷ pos 434 ∷ pos 78 ∷ []
unfolding sum_to tab join_to nine_cosines half_turn full_turn kernel product row_sum double_sum rounded sample block_samples
    first_row last_row places_before zigzag zigzag_at times_quantiser dequantised centre picture
columns_and_rows = refl

-- one block after the other: e's 16 and then its -4, the first and the last sample of each
pub blocks_in_order : map (λ place. get_or (picture 0 2 (pos 16 ∷ replicate 63 (pos 0) ++ (negsuc 3 ∷ [])) (replicate 64 1)) place (pos 0)) (0 ∷ 63 ∷ 64 ∷ 127 ∷ 128 ∷ [])
    ≡ pos 130 ∷ pos 130 ∷ pos 127 ∷ pos 127 ∷ pos 0 ∷ []
unfolding sum_to tab join_to nine_cosines half_turn full_turn kernel product row_sum double_sum rounded sample block_samples
    first_row last_row places_before zigzag zigzag_at times_quantiser dequantised centre picture
blocks_in_order = refl

-- ---- the call

-- one block with a value at zigzag index 1
pub second : ℤ → List ℤ
second v = pos 0 ∷ v ∷ replicate 62 (pos 0)

-- quantisers with a bad one at index 8
pub eighth : List ℕ
eighth = replicate 8 1 ++ (0 ∷ replicate 55 1)

-- "Transform: 20, 21, 22, 11, 9": each pair as one input with both faults: R 5 or 1,025 blocks and lengths that are wrong, a length that is wrong and a bad quantiser,
-- a bad quantiser at 8 and a value outside at 1, that value and no room, no room
pub one_fault_first : map (λ (p : ℕ × ℕ × List ℤ × List ℕ). inverse_transform p.0 p.1 p.2 p.3 0)
    ((5, 1, [], eighth) ∷ (0, 1025, [], eighth) ∷ (0, 1, pos 2048 ∷ [], eighth) ∷ (0, 1, second (pos 2048), 0 ∷ []) ∷ (0, 1, second (pos 2048), eighth) ∷ (0, 1, second (pos 2048), replicate 64 1)
    ∷ (0, 1, second (pos 2047), replicate 64 1) ∷ [])
    ≡ refused (refusal 20 0) ∷ refused (refusal 20 0) ∷ refused (refusal 21 0) ∷ refused (refusal 21 0) ∷ refused (refusal 22 8) ∷ refused (refusal 11 1) ∷ refused (refusal 9 64) ∷ []
unfolding second eighth tab join_to every first_fail or_here in_level is_dc inside first_outside block_samples picture is_quantiser first_bad_quantiser inverse_transform
one_fault_first = refl

-- R 4 and 1,024 blocks are in range, so that the lengths count; no blocks are a picture, and its 64 quantisers are looked at
pub settings_edges : map (λ (p : ℕ × ℕ × List ℕ). inverse_transform p.0 p.1 [] p.2 0) ((4, 1, eighth) ∷ (0, 1024, eighth) ∷ (4, 0, replicate 64 255) ∷ (4, 0, eighth) ∷ (4, 0, replicate 63 1) ∷ [])
    ≡ refused (refusal 21 0) ∷ refused (refusal 21 0) ∷ given [] ∷ refused (refusal 22 8) ∷ refused (refusal 21 0) ∷ []
unfolding eighth join_to every first_fail or_here first_outside picture is_quantiser first_bad_quantiser inverse_transform
settings_edges = refl

-- the values are at level R: at R 1 DC lies in -4096 to 4095, AC in -4095 to 4095
pub level_edges : map (λ values. inverse_transform 1 1 values (replicate 64 1) 0)
    ((pos 4095 ∷ replicate 63 (pos 0)) ∷ (pos 4096 ∷ replicate 63 (pos 0)) ∷ (negsuc 4095 ∷ replicate 63 (pos 0)) ∷ (negsuc 4096 ∷ replicate 63 (pos 0)) ∷ second (pos 4095) ∷ second (pos 4096) ∷ second (negsuc 4094) ∷ second (negsuc 4095) ∷ [])
    ≡ refused (refusal 9 64) ∷ refused (refusal 11 0) ∷ refused (refusal 9 64) ∷ refused (refusal 11 0) ∷ refused (refusal 9 64) ∷ refused (refusal 11 1) ∷ refused (refusal 9 64) ∷ refused (refusal 11 1) ∷ []
unfolding second tab join_to every first_fail or_here in_level is_dc inside first_outside block_samples picture is_quantiser first_bad_quantiser inverse_transform
level_edges = refl

-- 63 places are too few for a block; `case_e_lem` has just enough
pub room_edge : inverse_transform 0 1 (pos 16 ∷ replicate 63 (pos 0)) (replicate 64 1) 63 ≡ refused (refusal 9 64)
unfolding tab join_to every first_fail or_here in_level is_dc inside first_outside block_samples picture is_quantiser first_bad_quantiser inverse_transform
room_edge = refl
