-- D4 and D5: what the demands rule out. Each statement here follows from a demand, and would not if the demand were weaker.
use Rattle.std.specs.Prelude.{◌≡◌, List, [], ◌∷◌, ℕ, T, ℤ, pos, negsuc, length, replicate, Some}
use Rattle.answers.specs.Verdict.{Verdict, Meets}
use Rattle.answers.specs.declared.Answer.{Answer}
use Rattle.bit_rules.specs.Table.{Table}
use Rattle.merge_rules.specs.declared.Setting.{Setting}
use Rattle.plane_rules.specs.Levels.{climb}
use Rattle.demands.specs.One.{Rows, stands, Answered, box_rows, list_rows, dc_read_rows, ac_read_rows, dc_write_rows, ac_write_rows, transform_rows, preview_rows, merge_rows}
use Rattle.demands.specs.Two.{Exactly, DcRefined, Sampled}
use Rattle.demands.specs.Three.{Both, Provided, read_plane, level_of, Refined}
use Rattle.demands.specs.Cases.{whiteboard}

-- ---- "that two allowed outcomes coincide is proved"

-- D4: two outcomes that a promise allows are one
abbrev pub OneOutcome : Type 1
OneOutcome = (A : Type 0) (zero : A) (v : Verdict A) (before after after' : List A) (answer answer' : Answer)
    → Meets zero v before after answer → Meets zero v before after' answer' → (answer ≡ answer') × (after ≡ after')

-- ---- "An invented length or place breaks demand 1's table."

-- D4: whoever refuses, refuses with this number at this place and second place, and nobody who meets the demand succeeds
abbrev pub OneRefusal : Type 1
OneRefusal = (A : Type 0) (zero : A) (table : Rows) (before after after' : List A) (answer answer' : Answer)
    → Answered zero table before after answer → Answered zero table before after' answer' → (answer.number ≡ 0 → ⊥)
    → (answer'.number ≡ answer.number) × (answer'.place ≡ answer.place) × (answer'.second ≡ answer.second)

-- D4, N17: and nobody invents a second place with 0
abbrev pub NoSecond : Type 1
NoSecond = (A : Type 0) (zero : A) (table : Rows) (before after : List A) (answer : Answer)
    → Answered zero table before after answer → answer.number ≡ 0 → answer.second ≡ 0

-- N4: the numbers of each call, and no others
pub record Only (numbers : List ℕ) (table : Rows) : Type 0 where
  pub among : (n p q : ℕ) → table n p q → T (stands n numbers)

-- N4: which these are
pub record NumbersAre : Type 0 where
  pub boxes : (file : List ℕ) (kind instance room : ℕ) → Only (1 ∷ 2 ∷ 3 ∷ 4 ∷ 5 ∷ 6 ∷ 7 ∷ 8 ∷ 9 ∷ []) (box_rows file kind instance room)
  pub listings : (file : List ℕ) (room : ℕ) → Only (9 ∷ []) (list_rows file room)
  pub dc_read : (plane blocks : ℕ) (values : List ℤ) (bytes : List ℕ) (room : ℕ)
      → Only (20 ∷ 21 ∷ 11 ∷ 9 ∷ 12 ∷ 13 ∷ 18 ∷ []) (dc_read_rows plane blocks values bytes room)
  pub ac_read : (plane blocks : ℕ) (codes : Table) (values : List ℤ) (bytes : List ℕ) (room : ℕ)
      → Only (20 ∷ 21 ∷ 10 ∷ 11 ∷ 9 ∷ 12 ∷ 13 ∷ 14 ∷ 15 ∷ 16 ∷ 17 ∷ 18 ∷ []) (ac_read_rows plane blocks codes values bytes room)
  pub dc_write : (plane blocks : ℕ) (values : List ℤ) (room : ℕ) → Only (20 ∷ 28 ∷ 21 ∷ 11 ∷ 9 ∷ []) (dc_write_rows plane blocks values room)
  pub ac_write : (plane blocks : ℕ) (codes : Table) (values : List ℤ) (room : ℕ)
      → Only (20 ∷ 28 ∷ 21 ∷ 10 ∷ 11 ∷ 19 ∷ 9 ∷ []) (ac_write_rows plane blocks codes values room)
  pub transforms : (refinement blocks : ℕ) (values : List ℤ) (quantisers : List ℕ) (room : ℕ)
      → Only (20 ∷ 21 ∷ 22 ∷ 11 ∷ 9 ∷ []) (transform_rows refinement blocks values quantisers room)
  pub previews : (left : ℕ) (quantisers : List ℕ) (room : ℕ) → Only (20 ∷ 21 ∷ 22 ∷ 9 ∷ []) (preview_rows left quantisers room)
  pub merges : (s : Setting) (pixels : ℕ) (base residual : List ℤ) (table : List ℕ) (room : ℕ)
      → Only (20 ∷ 21 ∷ 11 ∷ 9 ∷ []) (merge_rows s pixels base residual table room)

-- ---- "Always refusing, and one constant picture, break demand 2's values."

-- D5: case d: DC 5, -1, 0, data BF
abbrev pub case_d : List ℤ → Type 0
case_d = DcRefined 1 3 (pos 5 ∷ negsuc 0 ∷ pos 0 ∷ []) (0xBF ∷ []) 3

-- D5: whoever refuses case d has not handed out exactly its values
abbrev pub AlwaysRefusing : Type 0
AlwaysRefusing = (after : List ℤ) (answer : Answer) → Exactly case_d after answer → (answer.number ≡ 0 → ⊥) → ⊥

-- D5: case e: S at DC alone
abbrev pub case_e : ℕ → List ℤ → Type 0
case_e s = Sampled 0 1 (pos s ∷ replicate 63 (pos 0)) (replicate 64 1) 64

-- D5: one picture is not right for S 16 and for S 4
abbrev pub OnePicture : Type 0
OnePicture = (after : List ℤ) (answer : Answer) → Exactly (case_e 16) after answer → Exactly (case_e 4) after answer → ⊥

-- ---- "Doing nothing breaks the zeros and the planes."

-- D5: plane 0 of no blocks, a destination of one element that is not 0
abbrev pub KeptOnRefusal : Type 0
KeptOnRefusal = (answer : Answer) → Answered (pos 0) (dc_read_rows 0 0 [] [] 1) (pos 7 ∷ []) (pos 7 ∷ []) answer → ⊥

-- D5: nines that were left as they were are not the values of case d
abbrev pub PlaneUntouched : Type 0
PlaneUntouched = (answer : Answer) → Exactly case_d (pos 9 ∷ pos 9 ∷ pos 9 ∷ []) answer → ⊥

-- ---- "Giving final values at plane one and copying later breaks demand 3 for j below k."

-- one block of two planes: DC 5, which is 2 behind plane 1
abbrev pub five : Both ℤ
five = record { dc = pos 5 ∷ []; ac = replicate 63 (pos 0) }

-- D5: the full value is not there after the first of two planes
abbrev pub FinalAtOnce : Type 0
FinalAtOnce =
    (lent : ℕ → Provided) (h : Refined 2 1 five lent) → climb (λ i values. read_plane i 1 (lent i) (h.plane i) values) 1 (level_of 2 five 0) ≡ Some five → ⊥

-- and "doubling without reading": without a bit DC 2 becomes 4
abbrev pub four : Both ℤ
four = record { dc = pos 4 ∷ []; ac = replicate 63 (pos 0) }

-- D5: after both planes the value is not 4
abbrev pub DoubledUnread : Type 0
DoubledUnread =
    (lent : ℕ → Provided) (h : Refined 2 1 five lent) → climb (λ i values. read_plane i 1 (lent i) (h.plane i) values) 2 (level_of 2 five 0) ≡ Some four → ⊥

-- ---- "Cases marked P are proved as one statement over one list": none is missing

-- S9, S11: the list has all 16, and A2's
abbrev pub WhiteboardWhole : Type 0
WhiteboardWhole = length whiteboard ≡ 17

-- D5: all of these
pub record ShamsRefuted : Type 1 where
  pub outcome : OneOutcome
  pub refusal : OneRefusal
  pub second : NoSecond
  pub numbers : NumbersAre
  pub refusing : AlwaysRefusing
  pub picture : OnePicture
  pub kept : KeptOnRefusal
  pub untouched : PlaneUntouched
  pub final : FinalAtOnce
  pub doubled : DoubledUnread
  pub whole : WhiteboardWhole
