-- What the AC writer sees in its values, on each side of each edge (E4 to E8), worked out by hand and computed over the definitions. Assumes nothing.
use mathlib.Core.Path.{◌≡◌, refl}
use mathlib.Core.List.{List, [], ◌∷◌, ◌++◌, map}
use mathlib.Core.Bool.{true, false}
use Rattle.std.specs.Prelude.{Some, None}
use Prim.Native.Nat.{ℕ}
use lib.IntN.{ℤ, pos, negsuc}
use lib.ListN.{replicate}
use Rattle.plane_rules.specs.Task.{walk, ended}
use Rattle.plane_rules.specs.AcRead.{cut}
use Rattle.plane_rules.specs.AcWrite.{ac_half, keep, still, fresh, kind_of, one_more, ahead, quiet, plan}
use Rattle.ac_plan.specs.Code.{kinds_from, kind_blocks, kind_is, coming_is}
use Rattle.ac_plan.specs.declared.Change.TheVariants.{Kept, Still, Fresh}

abbrev zeros : ℕ → List ℤ
zeros n = replicate n (pos 0)

-- "codes them against their halves (.. AC toward zero)": 0, 1 and -1 have half 0; 2 and 3 have half 1, -2 and -3 half -1; 4 and -5 have 2 and -2
pub kinds : kinds_from (pos 0 ∷ pos 1 ∷ negsuc 0 ∷ pos 2 ∷ pos 3 ∷ negsuc 1 ∷ negsuc 2 ∷ pos 4 ∷ negsuc 4 ∷ []) 0
    ≡ (still ∷ fresh true ∷ fresh false ∷ keep false ∷ keep true ∷ keep false ∷ keep true ∷ keep false ∷ keep true ∷ [])
unfolding kinds_from ac_half kind_of
kinds = refl

-- the zeros before the next new value: those before the position don't count, nor does a value that has a half; a new value at the position; none left; behind the block
abbrev row : List ℤ
row = pos 0 ∷ pos 2 ∷ pos 0 ∷ negsuc 0 ∷ pos 1 ∷ negsuc 2 ∷ pos 0 ∷ []

pub coming : map (λ (i : ℕ). ahead (kinds_from row i)) (0 ∷ 1 ∷ 2 ∷ 3 ∷ 4 ∷ 5 ∷ 7 ∷ [])
    ≡ (Some (2, false) ∷ Some (1, false) ∷ Some (1, false) ∷ Some (0, false) ∷ Some (0, true) ∷ None ∷ None ∷ [])
unfolding kinds_from ac_half kind_of one_more ahead
coming = refl

-- "the zero after r zeros": r is at most 15 in a code with a sign; sixteen zeros before a new value take "the 16-zero code", and so do seventeen
pub before_new : map (λ (n : ℕ). plan (kinds_from (zeros n ++ (pos 1 ∷ [])) 0) []) (0 ∷ 1 ∷ 15 ∷ 16 ∷ 17 ∷ [])
    ≡ (walk 0 (Some true) ∷ walk 1 (Some true) ∷ walk 15 (Some true) ∷ walk 15 None ∷ walk 15 None ∷ [])
unfolding kinds_from ac_half kind_of one_more ahead quiet plan
before_new = refl

-- "uses the 16-zero code only before a later new value": twenty zeros and none; "starts it directly after the last new value": corrections are left
pub run_begins : (plan (kinds_from (zeros 20) 0) [] ∷ plan (kinds_from (pos 1 ∷ pos 3 ∷ pos 0 ∷ []) 1) [] ∷ plan (kinds_from (pos 3 ∷ pos 1 ∷ []) 0) [] ∷ [])
    ≡ (ended 0 ∷ ended 0 ∷ walk 0 (Some true) ∷ [])
unfolding kinds_from ac_half kind_of one_more ahead quiet plan
run_begins = refl

-- "the longest end run": this block and those behind it up to one with a new value; none behind; a block of corrections belongs to it
pub run_lengths : map (λ (later : List ℤ × ℕ). plan [] (kind_blocks later.1 later.0)) (
    ([], 0)
    ∷ (zeros 63, 1)
    ∷ (zeros 126, 2)
    ∷ (pos 1 ∷ zeros 125, 2)
    ∷ (zeros 63 ++ (zeros 62 ++ (negsuc 0 ∷ [])), 2)
    ∷ (zeros 63 ++ (pos 1 ∷ zeros 62 ++ zeros 63), 3)
    ∷ (replicate 63 (pos 3) ++ zeros 63, 2)
    ∷ [])
    ≡ (ended 0 ∷ ended 1 ∷ ended 2 ∷ ended 0 ∷ ended 1 ∷ ended 1 ∷ ended 2 ∷ [])
unfolding kind_blocks cut ac_half kind_of one_more ahead quiet plan
run_lengths = refl

-- what the code's enums stand for
pub enums : (kind_is (Kept true) ≡ keep true) × (kind_is Still ≡ still) × (kind_is (Fresh false) ≡ fresh false) × (coming_is (Some (record { zeros = 3; positive = true })) ≡ Some (3, true)) × (coming_is None ≡ None)
unfolding kind_is coming_is
enums = (refl, refl, refl, refl, refl)
