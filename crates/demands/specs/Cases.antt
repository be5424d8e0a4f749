-- S1 to S9, S11: the whiteboard's readings marked P (cases a, c, d, e, f, g) and the grey picture of A2, as one list.
use Rattle.std.specs.Prelude.{◌≡◌, List, [], ◌∷◌, map, ℕ, ℤ, pos, negsuc, replicate}
use Rattle.answers.specs.Verdict.{Verdict, given, refused, refusal}
use Rattle.bit_rules.specs.Table.{Table, table}
use Rattle.plane_rules.specs.Dc.{read_dc}
use Rattle.plane_rules.specs.AcRead.{read_ac}
use Rattle.box_rules.specs.Box.{box_bytes}
use Rattle.transform_rules.specs.Call.{inverse_transform}
use Rattle.merge_rules.specs.declared.Curve.TheVariants.{Straight}
use Rattle.merge_rules.specs.declared.Setting.{Setting}
use Rattle.merge_rules.specs.declared.Colour.{Colour}
use Rattle.merge_rules.specs.declared.Colour.TheVariants.{Identity, Transform}
use Rattle.merge_rules.specs.declared.Matrix.TheVariants.{None}
use Rattle.merge_rules.specs.declared.Residual.{Residual}
use Rattle.merge_rules.specs.declared.Residual.TheVariants.{Absent, Present}
use Rattle.merge_rules.specs.Pixels.{Pixel, triple}
use Rattle.merge_rules.specs.Steps.{step_one}
use Rattle.merge_rules.specs.Picture.{merge}

-- S9: what is asked: a call with its inputs and the room lent, or step 1 of the merge for a pixel
pub data Asked : Type 0 where
  box : List ℕ → ℕ → ℕ → ℕ → Asked
  ac_read : ℕ → ℕ → Table → List ℤ → List ℕ → ℕ → Asked
  dc_read : ℕ → ℕ → List ℤ → List ℕ → ℕ → Asked
  transformed : ℕ → ℕ → List ℤ → List ℕ → ℕ → Asked
  first_step : Setting → Pixel ℤ → Asked
  merged : Setting → ℕ → List ℤ → List ℤ → List ℕ → ℕ → Asked

-- S9: what it comes to
pub data Result : Type 0 where
  naturals : Verdict ℕ → Result
  integers : Verdict ℤ → Result
  pixel : Pixel ℕ → Result

-- S9: by the definitions
unfoldable pub result_of : Asked → Result
result_of (box file kind instance room) = naturals (box_bytes file kind instance room)
result_of (ac_read plane blocks T values bytes room) = integers (read_ac plane blocks T values bytes room)
result_of (dc_read plane blocks values bytes room) = integers (read_dc plane blocks values bytes room)
result_of (transformed refinement blocks values quantisers room) = integers (inverse_transform refinement blocks values quantisers room)
result_of (first_step setting p) = pixel (step_one setting p)
result_of (merged setting pixels base residual curve room) = naturals (merge setting pixels base residual curve room)

-- S9: a reading, and what the whiteboard says of it
pub record Case : Type 0 where
  pub asked : Asked
  pub says : Result

-- S9: the same, to be read as a sentence
infixr 6 ◌gives◌
abbrev pub ◌gives◌ : Asked → Result → Case
◌gives◌ asked says = record { asked = asked; says = says }

-- S9, S10: each reading of a list is what is said of it
abbrev pub Hold : List Case → Type 0
Hold cases = map (λ (c : Case). result_of c.asked) cases ≡ map (λ (c : Case). c.says) cases

-- ---- what the readings are taken from

-- S1: "FF D8 FF EB 00 15 4A 50 00 01 00 00 00 01 00 00 00 0B 4C 50 54 53 AA BB CC FF DA"
abbrev pub file : List ℕ
file =
    0xFF ∷ 0xD8 ∷ 0xFF ∷ 0xEB ∷ 0x00 ∷ 0x15 ∷ 0x4A ∷ 0x50 ∷ 0x00 ∷ 0x01 ∷ 0x00 ∷ 0x00 ∷ 0x00 ∷ 0x01 ∷ 0x00 ∷ 0x00 ∷ 0x00 ∷ 0x0B
    ∷ 0x4C ∷ 0x50 ∷ 0x54 ∷ 0x53 ∷ 0xAA ∷ 0xBB ∷ 0xCC ∷ 0xFF ∷ 0xDA ∷ []

-- P3, S1: "4C 50 54 53", as one number
abbrev pub lpts : ℕ
lpts = 0x4C505453

-- S3: "Table T: lengths 2, values 00, 01, F0 (codes 00, 01, 10)."
abbrev pub table_t : Table
table_t = table (0 ∷ 3 ∷ replicate 14 0) (0x00 ∷ 0x01 ∷ 0xF0 ∷ [])

-- S3: a block of an AC plane, zero but for its first value
abbrev pub block : ℤ → List ℤ
block first = first ∷ replicate 62 (pos 0)

-- S5: "Only S at DC, R 0": one block, each quantiser 1
abbrev pub only_dc : ℤ → Asked
only_dc s = transformed 0 1 (s ∷ replicate 63 (pos 0)) (replicate 64 1) 64

-- S5: "everywhere": all 64 samples
abbrev pub everywhere : ℤ → Result
everywhere value = integers (given (replicate 64 value))

-- S6, S11: straight, by its Rb and Rh, without a matrix
abbrev pub setting_at : ℕ → ℕ → ℕ → Colour → Residual → Setting
setting_at rb rh components colour residual =
    record {
      rb = rb;
      rh = rh;
      rr = 4;
      components = components;
      base_transform = colour;
      curve = Straight;
      matrix = None;
      weights = replicate 9 (pos 0);
      residual = residual;
      residual_transform = Identity;
    }

-- S6: "Rh 0", "Rb 4, straight"; at Rr 4 a residual is after step 4 what it was before
abbrev pub setting : ℕ → Colour → Residual → Setting
setting = setting_at 4 0

-- S7: one pixel of one component, without a residual
abbrev pub base_alone : ℤ → Asked
base_alone base = merged (setting 1 Identity Absent) 1 (base ∷ []) [] [] 1

-- S7: the same with a residual
abbrev pub with : ℤ → ℤ → Asked
with base residual = merged (setting 1 Identity Present) 1 (base ∷ []) (residual ∷ []) [] 1

-- S7: one sample of the result
abbrev pub one_sample : ℕ → Result
one_sample n = naturals (given (n ∷ []))

-- ---- the whiteboard

-- S1, S3, S4, S5, S6, S7, S11: the 16 readings marked P, and A2's
abbrev pub whiteboard : List Case
whiteboard =
    -- a. "LPTS, 1 gives AA BB CC", "LPTS, 2 gives 4"
    (box file lpts 1 3 gives naturals (given (0xAA ∷ 0xBB ∷ 0xCC ∷ [])))
    ∷ (box file lpts 2 3 gives naturals (refused (refusal 4 0)))
    -- c. "T, one zero block, data 67: AC 1 becomes 1", "Position 1 at 3, data 3F: 7", "Same, data 43: 6, then -1 at position 2",
    -- "Zero block, data 43: 18, place 1"
    ∷ (ac_read 1 1 table_t (block (pos 0)) (0x67 ∷ []) 63 gives integers (given (block (pos 1))))
    ∷ (ac_read 1 1 table_t (block (pos 3)) (0x3F ∷ []) 63 gives integers (given (block (pos 7))))
    ∷ (ac_read 1 1 table_t (block (pos 3)) (0x43 ∷ []) 63 gives integers (given (pos 6 ∷ negsuc 0 ∷ replicate 61 (pos 0))))
    ∷ (ac_read 1 1 table_t (block (pos 0)) (0x43 ∷ []) 63 gives integers (refused (refusal 18 1)))
    -- d. "DC 5, -1, 0, data BF: 11, -2, 1"
    ∷ (dc_read 1 3 (pos 5 ∷ negsuc 0 ∷ pos 0 ∷ []) (0xBF ∷ []) 3 gives integers (given (pos 11 ∷ negsuc 1 ∷ pos 1 ∷ [])))
    -- e. "16 gives 130 everywhere, 3 gives 128, 4 gives 129, -4 gives 127"
    ∷ (only_dc (pos 16) gives everywhere (pos 130))
    ∷ (only_dc (pos 3) gives everywhere (pos 128))
    ∷ (only_dc (pos 4) gives everywhere (pos 129))
    ∷ (only_dc (negsuc 3) gives everywhere (pos 127))
    -- f. "Rh 0: Y 100, Cb 128, Cr 138 gives 114, 93, 100"
    ∷ (first_step (setting 3 Transform Absent) (triple (pos 100) (pos 128) (pos 138)) gives pixel (triple 114 93 100))
    -- g. "128 gives 2056; with residual 2050 after step 4, 2058; base 255 with 2100 gives 4095; base 0 with 2000 gives 0"
    ∷ (base_alone (pos 128) gives one_sample 2056)
    ∷ (with (pos 128) (pos 2050) gives one_sample 2058)
    ∷ (with (pos 255) (pos 2100) gives one_sample 4095)
    ∷ (with (pos 0) (pos 2000) gives one_sample 0)
    -- A2. "a grey picture at Rh 4: Y 2048, Cb 2048, Cr 2048 gives 2048 three times after step 1"; Rb is another number, 8
    ∷ (first_step (setting_at 8 4 3 Transform Absent) (triple (pos 2048) (pos 2048) (pos 2048)) gives pixel (triple 2048 2048 2048))
    ∷ []

-- S9: every reading is what the whiteboard says
abbrev pub WhiteboardHolds : Type 0
WhiteboardHolds = Hold whiteboard
