-- The whiteboard's readings c and d (S3, S4), and one example each of 15 and 19, by computation. Assumes nothing.
use mathlib.Core.Path.{◌≡◌, refl}
use mathlib.Core.List.{List, [], ◌∷◌, map}
use Prim.Native.Nat.{ℕ}
use lib.IntN.{ℤ, pos, negsuc}
use lib.ListN.{replicate}
use Rattle.laws.specs.Index.{every}
use Rattle.laws.specs.First.{first_fail, or_here}
use Rattle.answers.specs.Verdict.{Verdict, given, refused, refusal_at, refusal}
use Rattle.levels.specs.Level.{in_level, is_dc, inside, first_outside}
use Rattle.bit_rules.specs.Digits.{digits}
use Rattle.bit_rules.specs.Source.{opened, after_ff, next_byte, take_from, take_bit, only_padding}
use Rattle.bit_rules.specs.Pack.{stuffed, padded, packed}
use Rattle.bit_rules.specs.Table.{Table, table, code_count, kraft, holds, distinct, good_table}
use Rattle.bit_rules.specs.Read.{code_from, take_code}
use Rattle.bit_rules.specs.Write.{place_of}
use Rattle.plane_rules.specs.Plane.{onto, closed}
use Rattle.plane_rules.specs.Dc.{new_dc, dc_blocks, read_dc, dc_half, dc_bit, written_dc, write_dc}
use Rattle.bit_rules.specs.Number.{take_number}
use Rattle.plane_rules.specs.AcRead.{end_run, meaning, task_at, position, block_end, ac_block, cut, ac_blocks, read_ac}
use Rattle.plane_rules.specs.AcWrite.{ac_half, kind_of, one_more, ahead, quiet, plan, order, emit, write_block, write_blocks, tokens, lacking, written_ac, write_ac}

-- "Table T: lengths 2, values 00, 01, F0 (codes 00, 01, 10)."
abbrev pub T : Table
T = table (0 ∷ 3 ∷ replicate 14 0) (0x00 ∷ 0x01 ∷ 0xf0 ∷ [])

-- a block: its first value, then zeros
abbrev pub block : ℤ → List ℤ
block first = first ∷ replicate 62 (pos 0)

-- one block, plane 1: the table, the values, the data, and what is read
pub record Reading : Type 0 where
  pub codes : Table
  pub values : List ℤ
  pub bytes : List ℕ
  pub verdict : Verdict ℤ

abbrev pub reading : Table → List ℤ → List ℕ → Verdict ℤ → Reading
reading codes values bytes verdict = record { codes = codes; values = values; bytes = bytes; verdict = verdict }

-- "T, one zero block, data 67: AC 1 becomes 1." "Position 1 at 3, data 3F: 7." "Same, data 43: 6, then -1 at position 2." "Zero block, data 43: 18, place 1."
-- "One block, no data: 12, place 0." And "code not used in refinement", "block": the one code has the value 02
abbrev pub readings : List Reading
readings =
    reading T (block (pos 0)) (0x67 ∷ []) (given (block (pos 1)))
    ∷ reading T (block (pos 3)) (0x3f ∷ []) (given (block (pos 7)))
    ∷ reading T (block (pos 3)) (0x43 ∷ []) (given (pos 6 ∷ negsuc 0 ∷ replicate 61 (pos 0)))
    ∷ reading T (block (pos 0)) (0x43 ∷ []) (refused (refusal 18 1))
    ∷ reading T (block (pos 0)) [] (refused (refusal_at 12 0 0))
    ∷ reading (table (0 ∷ 1 ∷ replicate 14 0) (0x02 ∷ [])) (block (pos 0)) (0x3f ∷ []) (refused (refusal_at 15 0 0))
    ∷ []

pub case_c : map (λ (r : Reading). read_ac 1 1 r.codes r.values r.bytes 63) readings ≡ map (λ (r : Reading). r.verdict) readings
unfolding every first_fail or_here in_level is_dc inside first_outside digits opened after_ff next_byte take_from take_bit only_padding code_count kraft holds distinct good_table code_from take_code onto closed take_number end_run meaning task_at position block_end ac_block cut ac_blocks read_ac
case_c = refl

-- "DC 5, -1, 0, data BF: 11, -2, 1."
pub case_d_read : read_dc 1 3 (pos 5 ∷ negsuc 0 ∷ pos 0 ∷ []) (0xbf ∷ []) 3 ≡ given (pos 11 ∷ negsuc 1 ∷ pos 1 ∷ [])
unfolding every first_fail or_here in_level is_dc inside first_outside digits opened after_ff next_byte take_from take_bit only_padding onto closed new_dc dc_blocks read_dc
case_d_read = refl

-- "Eight ones write FF 00."
pub case_d_write : write_dc 1 8 (replicate 8 (pos 1)) 2 ≡ given (0xff ∷ 0 ∷ [])
unfolding every first_fail or_here in_level is_dc inside first_outside stuffed padded packed dc_half dc_bit written_dc
case_d_write = refl

-- "writer's table lacks a code", "the code's value": a new value at position 1 needs 01
pub lacking_code : write_ac 1 1 (table (0 ∷ 2 ∷ replicate 14 0) (0x00 ∷ 0xf0 ∷ [])) (block (pos 1)) 8 ≡ refused (refusal 19 1)
unfolding every first_fail or_here in_level is_dc inside first_outside digits code_count kraft holds distinct good_table place_of cut ac_half kind_of one_more ahead quiet plan order emit write_block write_blocks tokens lacking written_ac
lacking_code = refl

-- "Halving a negative AC downward: -3 must give -1, not -2."; DC is halved downward
pub halves_of_minus_three : (ac_half (negsuc 2) ≡ negsuc 0) × (dc_half (negsuc 2) ≡ negsuc 1)
unfolding ac_half dc_half
halves_of_minus_three = (refl, refl)
