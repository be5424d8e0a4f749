-- The shams are refuted. Assumes nothing.
use mathlib.Core.Path.{◌≡◌, refl, sym, ap, ◌∙◌}
use mathlib.Core.Logic.{◌⊎◌, inl, inr, ⊎_elim}
use mathlib.Core.Bool.{Bool, true, false, cond}
use mathlib.Core.List.{List, [], ◌∷◌, map}
use Rattle.std.specs.Prelude.{Option, Some, None}
use Prim.Native.Nat.{ℕ, zero, suc}
use native.Mathlib.Omega.{arith}
use borrow.Author.Tests.{eqb-true}
use lib.Dec.{T, eqb}
use lib.IntN.{ℤ, pos, negsuc, nat_abs}
use lib.ListN.{get_or, take, replicate}
use Rattle.laws.specs.Index.{every}
use Rattle.laws.proofs.Choices.{cond_left, cond_right}
use Rattle.answers.specs.Verdict.{Verdict, given}
use Rattle.plane_rules.specs.Levels.{downward}
use Rattle.demands.specs.One.{Rows, stands, row, rows, ◌then◌, Succeeded, Turned, packet_rows, box_rows, list_rows, dc_read_rows, ac_read_rows, dc_write_rows, ac_write_rows, transform_rows, preview_rows, merge_rows}
use Rattle.demands.specs.Three.{Both, level_of}
use Rattle.demands.specs.Shams.{OneOutcome, OneRefusal, NoSecond, Only, NumbersAre, case_d, AlwaysRefusing, case_e, OnePicture, KeptOnRefusal, PlaneUntouched, FinalAtOnce, DoubledUnread, ShamsRefuted}
use Rattle.demands.specs.Cases.{Result, naturals, integers, result_of, Case, only_dc, everywhere, whiteboard}
use Rattle.demands.proofs.Two.{dc_refined, sampled}
use Rattle.demands.proofs.Cases.{whiteboard_holds}

pub one_outcome : OneOutcome
one_outcome A nil v before after after' answer answer' m m' = (m.answered ∙ sym m'.answered, m.held ∙ sym m'.held)

one_refusal : OneRefusal
one_refusal A nil table before after after' answer answer' h h' n = go h.outcome
  where
    go : Succeeded before after answer ⊎ Turned nil table before after answer → (answer'.number ≡ answer.number) × (answer'.place ≡ answer.place) × (answer'.second ≡ answer.second)
    go (inl s) = absurd (n s.well)
    go (inr t) = h'.only answer.number answer.place answer.second t.line

no_second : NoSecond
no_second A nil table before after answer h n = go h.outcome
  where
    go : Succeeded before after answer ⊎ Turned nil table before after answer → answer.second ≡ 0
    go (inl s) = s.second
    go (inr t) = absurd (t.told n)

-- ---- the numbers of rows

-- each of these numbers stands among those
included : List ℕ → List ℕ → Bool
included [] numbers = true
included (x ∷ others) numbers = cond (stands x numbers) (included others numbers) false

stands_too : (others numbers : List ℕ) → included others numbers ≡ true → (n : ℕ) → T (stands n others) → T (stands n numbers)
unfolding included
stands_too [] numbers e n h = absurd h
stands_too (x ∷ others) numbers e n h = go (stands_too others numbers (cond_right (stands x numbers) (included others numbers) e) n) (eqb n x) refl h
  where
    go : (T (stands n others) → T (stands n numbers)) → (b : Bool) → eqb n x ≡ b → T (cond b true (stands n others)) → T (stands n numbers)
    go on true q h = rw (eqb-true n x q, cond_left (stands x numbers) (included others numbers) e) tt
    go on false q h = on h

module _ {numbers : List ℕ} where
  row_in : (number : ℕ) (means : ℕ → Type 0) → T (stands number numbers) → Only numbers (row number means)
  row_in number means t = record { among = λ n p q h. rw h.0 t }

  rows_in : (others : List ℕ) (means : Rows) → included others numbers ≡ true → Only numbers (rows others means)
  rows_in others means e = record { among = λ n p q h. stands_too others numbers e n h.0 }

  infixr 5 ◌with◌
  ◌with◌ : {first later : Rows} → Only numbers first → Only numbers later → Only numbers (first then later)
  ◌with◌ f g = record { among = λ n p q. ⊎_elim (f.among n p q) (λ h. g.among n p q h.1) }

numbers_are : NumbersAre
unfolding included box_rows packet_rows list_rows dc_read_rows ac_read_rows dc_write_rows ac_write_rows transform_rows preview_rows merge_rows
numbers_are = record {
  boxes = λ file kind instance room.
      row_in 1 _ tt with rows_in (2 ∷ 3 ∷ []) _ refl with row_in 4 _ tt with row_in 5 _ tt with row_in 6 _ tt with row_in 7 _ tt with row_in 8 _ tt with row_in 9 _ tt;
  listings = λ file room. row_in 9 _ tt;
  dc_read = λ plane blocks values bytes room. row_in 20 _ tt with row_in 21 _ tt with row_in 11 _ tt with row_in 9 _ tt with rows_in (12 ∷ 13 ∷ []) _ refl with row_in 18 _ tt;
  ac_read = λ plane blocks codes values bytes room.
      row_in 20 _ tt with row_in 21 _ tt with row_in 10 _ tt with row_in 11 _ tt with row_in 9 _ tt with rows_in (12 ∷ 13 ∷ 14 ∷ 15 ∷ 16 ∷ 17 ∷ []) _ refl with row_in 18 _ tt;
  dc_write = λ plane blocks values room. row_in 20 _ tt with row_in 28 _ tt with row_in 21 _ tt with row_in 11 _ tt with row_in 9 _ tt;
  ac_write = λ plane blocks codes values room. row_in 20 _ tt with row_in 28 _ tt with row_in 21 _ tt with row_in 10 _ tt with row_in 11 _ tt with row_in 19 _ tt with row_in 9 _ tt;
  transforms = λ refinement blocks values quantisers room. row_in 20 _ tt with row_in 21 _ tt with row_in 22 _ tt with row_in 11 _ tt with row_in 9 _ tt;
  previews = λ left quantisers room. row_in 20 _ tt with row_in 21 _ tt with row_in 22 _ tt with row_in 9 _ tt;
  merges = λ s pixels base residual table room. row_in 20 _ tt with row_in 20 _ tt with row_in 20 _ tt with row_in 21 _ tt with row_in 11 _ tt with row_in 9 _ tt;
}

-- ---- values that the rules have: readings of the whiteboard, by their place in its list

same_verdict : {v w : Verdict ℤ} → integers v ≡ integers w → v ≡ w
same_verdict e = cc

case_d_lem : case_d (pos 11 ∷ negsuc 1 ∷ pos 1 ∷ [])
unfolding result_of
case_d_lem = dc_refined 1 3 (pos 5 ∷ negsuc 0 ∷ pos 0 ∷ []) (0xBF ∷ []) 3 (pos 11 ∷ negsuc 1 ∷ pos 1 ∷ []) (same_verdict (ap (λ (l : List Result). get_or l 6 (naturals (given []))) whiteboard_holds))

-- S at DC, at this place of the list, gives n everywhere
case_e_lem : (place s n : ℕ) → get_or (map (λ (c : Case). result_of c.asked) whiteboard) place (naturals (given [])) ≡ result_of (only_dc (pos s))
    → get_or (map (λ (c : Case). c.says) whiteboard) place (naturals (given [])) ≡ everywhere (pos n) → case_e s (replicate 64 (pos n))
unfolding result_of
case_e_lem place s n e q =
    sampled 0 1 (pos s ∷ replicate 63 (pos 0)) (replicate 64 1) 64 (replicate 64 (pos n))
    (same_verdict (sym e ∙ (ap (λ (l : List Result). get_or l place (naturals (given []))) whiteboard_holds ∙ q)))

always_refusing : AlwaysRefusing
always_refusing after answer h n = n (h.complete (pos 11 ∷ negsuc 1 ∷ pos 1 ∷ []) case_d_lem).0

one_picture : OnePicture
one_picture after answer h h' =
    let e : replicate 64 (pos 130) ≡ replicate 64 (pos 129) = sym (h.complete (replicate 64 (pos 130)) (case_e_lem 7 16 130 refl refl)).1 ∙ (h'.complete (replicate 64 (pos 129)) (case_e_lem 9 4 129 refl refl)).1 in
    let z : ◌≡◌ {A = ℕ} 130 129 = ap (λ (l : List ℤ). nat_abs (get_or l 0 (pos 0))) e in
    omega arith

plane_untouched : PlaneUntouched
plane_untouched answer h =
    let e = (h.complete (pos 11 ∷ negsuc 1 ∷ pos 1 ∷ []) case_d_lem).1 in
    let z : nat_abs (get_or (take answer.place (pos 9 ∷ pos 9 ∷ pos 9 ∷ [])) 0 (pos 0)) ≡ 11 = ap (λ (l : List ℤ). nat_abs (get_or l 0 (pos 0))) e in
    nine answer.place z
  where
    nine : (n : ℕ) → nat_abs (get_or (take n (pos 9 ∷ pos 9 ∷ pos 9 ∷ [])) 0 (pos 0)) ≡ 11 → ⊥
    nine zero e = let z : ◌≡◌ {A = ℕ} 0 11 = e in omega arith
    nine (suc n) e = let z : ◌≡◌ {A = ℕ} 9 11 = e in omega arith

-- ---- zeros

twenty : dc_read_rows 0 0 [] [] 1 20 0 0
unfolding dc_read_rows every
twenty = inl (refl, (refl, refl), refl)

kept_on_refusal : KeptOnRefusal
kept_on_refusal answer h = go h.outcome
  where
    go : Succeeded (pos 7 ∷ []) (pos 7 ∷ []) answer ⊎ Turned (pos 0) (dc_read_rows 0 0 [] [] 1) (pos 7 ∷ []) (pos 7 ∷ []) answer → ⊥
    go (inl s) = let z : ◌≡◌ {A = ℕ} 0 20 = sym s.well ∙ (h.only 20 0 0 twenty).0 in omega arith
    go (inr t) = let z : ◌≡◌ {A = ℕ} 7 0 = ap (λ (l : List ℤ). nat_abs (get_or l 0 (pos 0))) t.zeros in omega arith

-- ---- planes

-- the first DC value of what a climb came to
first_dc : Option (Both ℤ) → ℕ
first_dc None = 0
first_dc (Some values) = nat_abs (get_or values.dc 0 (pos 0))

final_at_once : FinalAtOnce
unfolding level_of downward first_dc
final_at_once lent h e = let z : ◌≡◌ {A = ℕ} 2 5 = ap first_dc (sym (h.after 1 (omega arith)) ∙ e) in omega arith

doubled_unread : DoubledUnread
unfolding level_of downward first_dc
doubled_unread lent h e = let z : ◌≡◌ {A = ℕ} 5 4 = ap first_dc (sym (h.after 2 (omega arith)) ∙ e) in omega arith

pub shams_refuted : ShamsRefuted
shams_refuted = record {
  outcome = one_outcome;
  refusal = one_refusal;
  second = no_second;
  numbers = numbers_are;
  refusing = always_refusing;
  picture = one_picture;
  kept = kept_on_refusal;
  untouched = plane_untouched;
  final = final_at_once;
  doubled = doubled_unread;
  whole = refl;
}
