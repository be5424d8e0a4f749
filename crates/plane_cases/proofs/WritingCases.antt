-- Writing an AC plane (E1 to E10), on each side of each edge, worked out by hand and computed over the definitions. Assumes nothing.
use mathlib.Core.Path.{◌≡◌, refl}
use mathlib.Core.List.{List, [], ◌∷◌, ◌++◌, map}
use Prim.Native.Nat.{ℕ}
use lib.IntN.{ℤ, pos, negsuc}
use lib.ListN.{replicate}
use Rattle.laws.specs.Index.{every}
use Rattle.laws.specs.First.{first_fail, or_here}
use Rattle.answers.specs.Verdict.{Verdict, given, refused, refusal}
use Rattle.levels.specs.Level.{in_level, is_dc, inside, first_outside}
use Rattle.bit_rules.specs.Digits.{digits}
use Rattle.bit_rules.specs.Pack.{stuffed, padded, packed}
use Rattle.bit_rules.specs.Table.{Table, table, code_count, kraft, holds, distinct, good_table}
use Rattle.bit_rules.specs.Write.{place_of, code_at, word}
use Rattle.plane_rules.specs.AcRead.{cut}
use Rattle.plane_rules.specs.AcWrite.{ac_half, kind_of, one_more, ahead, quiet, plan, order, emit, write_block, write_blocks, tokens, lacking, spelled, written_ac, write_ac}

-- three codes of two bits: 00, 01, 10
abbrev pub three_codes : List ℕ → Table
three_codes values = table (0 ∷ 3 ∷ replicate 14 0) values

-- "Table T: lengths 2, values 00, 01, F0"; tables whose first code tells a run of 2 or 3 blocks, one of 4 to 7, and a new value behind 14 zeros; and one that is none
abbrev pub T : Table
T = three_codes (0x00 ∷ 0x01 ∷ 0xf0 ∷ [])

abbrev pub twos : Table
twos = three_codes (0x10 ∷ 0x01 ∷ 0xf0 ∷ [])

abbrev pub fours : Table
fours = three_codes (0x20 ∷ 0x01 ∷ 0xf0 ∷ [])

abbrev pub late : Table
late = three_codes (0xe1 ∷ 0x01 ∷ 0xf0 ∷ [])

abbrev pub bad : Table
bad = three_codes (0x00 ∷ 0x01 ∷ [])

abbrev pub zeros : ℕ → List ℤ
zeros n = replicate n (pos 0)

-- zeros, a value, zeros to the end of the block
abbrev pub only : ℕ → ℤ → ℕ → List ℤ
only before value behind = zeros before ++ (value ∷ zeros behind)

-- the plane, the table, the blocks, the values, the room, and what is written
pub record Writing : Type 0 where
  pub plane : ℕ
  pub codes : Table
  pub blocks : ℕ
  pub values : List ℤ
  pub room : ℕ
  pub verdict : Verdict ℕ

abbrev pub writing : ℕ → Table → ℕ → List ℤ → ℕ → Verdict ℕ → Writing
writing plane codes blocks values room verdict =
    record { plane = plane; codes = codes; blocks = blocks; values = values; room = room; verdict = verdict }

-- ---- one block

-- the whiteboard's c turned round: 67, 3F, 43; 7 then -1: the correction is 1 and stands behind the sign; a correction behind the last new value stands behind the end code;
-- "-3 must give -1": -3 takes a 1 and -2 a 0; "uses the 16-zero code only before a later new value": not in a block of zeros, once before 16 zeros, twice before 32;
-- "A block whose position 63 was reached needs no code": 62 zeros are three times F0, then E1 and the sign
abbrev pub blocks : List Writing
blocks =
    writing 1 T 1 (only 0 (pos 1) 62) 9 (given (0x67 ∷ []))
    ∷ writing 1 T 1 (only 0 (pos 7) 62) 9 (given (0x3f ∷ []))
    ∷ writing 1 T 1 (pos 6 ∷ negsuc 0 ∷ zeros 61) 9 (given (0x43 ∷ []))
    ∷ writing 1 T 1 (pos 7 ∷ negsuc 0 ∷ zeros 61) 9 (given (0x53 ∷ []))
    ∷ writing 1 T 1 (pos 1 ∷ pos 3 ∷ zeros 61) 9 (given (0x67 ∷ []))
    ∷ writing 1 T 1 (pos 1 ∷ pos 2 ∷ zeros 61) 9 (given (0x63 ∷ []))
    ∷ writing 1 T 1 (only 0 (negsuc 2) 62) 9 (given (0x3f ∷ []))
    ∷ writing 1 T 1 (only 0 (negsuc 1) 62) 9 (given (0x1f ∷ []))
    ∷ writing 1 T 1 (zeros 63) 9 (given (0x3f ∷ []))
    ∷ writing 1 T 1 (only 16 (pos 1) 46) 9 (given (0x99 ∷ []))
    ∷ writing 1 T 1 (only 32 (pos 1) 30) 9 (given (0xa6 ∷ 0x7f ∷ []))
    ∷ writing 1 late 1 (only 62 (negsuc 0) 0) 9 (given (0xa8 ∷ 0x7f ∷ []))
    ∷ writing 1 late 1 (only 62 (pos 1) 0) 9 (given (0xa8 ∷ 0xff ∷ 0x00 ∷ []))
    ∷ writing 1 T 0 [] 0 (given [])
    ∷ []

-- ---- end runs

-- "a run of 2^r + e blocks": 2 and 3 with one bit, 4 and 5 with two; a block with a new value breaks it, and its own rest begins the next; a block whose position 63 is new belongs to none;
-- a block of 63 corrections belongs to it (63 bits 0 behind the three of the run)
abbrev pub runs : List Writing
runs =
    writing 1 twos 2 (zeros 126) 9 (given (0x1f ∷ []))
    ∷ writing 1 twos 3 (zeros 189) 9 (given (0x3f ∷ []))
    ∷ writing 1 fours 4 (zeros 252) 9 (given (0x0f ∷ []))
    ∷ writing 1 fours 5 (zeros 315) 9 (given (0x1f ∷ []))
    ∷ writing 1 T 2 (zeros 63 ++ only 0 (pos 1) 62) 9 (given (0x19 ∷ []))
    ∷ writing 1 twos 2 (only 0 (pos 1) 62 ++ zeros 63) 9 (given (0x63 ∷ []))
    ∷ writing 1 late 2 (only 62 (negsuc 0) 0 ++ zeros 63) 9 (refused (refusal 19 0x00))
    ∷ writing 1 twos 2 (zeros 63 ++ replicate 63 (pos 2)) 9 (given (replicate 8 0 ++ (0x3f ∷ [])))
    ∷ []

-- ---- refusals

-- 19, "first needed in writing order": 17 zeros need 11 behind F0; 15 zeros need F1 and no F0; 21 before 31 and 31 before 11; an end run's code stands before the next block's; runs of 1, 2 and 4
-- 11: beyond 4,095 either way at level 1; 9: one byte short, and 00 behind FF counts
-- 28 directly behind 20, and "20, 21, 10, 11, 19 .., 9": two faults in one, the earlier is told
abbrev pub refusals : List Writing
refusals =
    writing 1 T 1 (only 17 (negsuc 0) 45) 9 (refused (refusal 19 0x11))
    ∷ writing 1 T 1 (only 15 (pos 1) 47) 9 (refused (refusal 19 0xf1))
    ∷ writing 1 T 1 (only 2 (pos 1) 3 ++ only 0 (pos 1) 56) 9 (refused (refusal 19 0x21))
    ∷ writing 1 T 1 (only 3 (pos 1) 1 ++ only 0 (pos 1) 57) 9 (refused (refusal 19 0x31))
    ∷ writing 1 late 2 (zeros 63 ++ only 2 (pos 1) 60) 9 (refused (refusal 19 0x00))
    ∷ writing 1 twos 1 (zeros 63) 9 (refused (refusal 19 0x00))
    ∷ writing 1 T 2 (zeros 126) 9 (refused (refusal 19 0x10))
    ∷ writing 1 twos 4 (zeros 252) 9 (refused (refusal 19 0x20))
    ∷ writing 1 T 1 (only 0 (pos 4095) 62) 9 (given (0x3f ∷ []))
    ∷ writing 1 T 1 (only 5 (pos 4096) 57) 9 (refused (refusal 11 5))
    ∷ writing 1 T 1 (only 0 (negsuc 4094) 62) 9 (given (0x3f ∷ []))
    ∷ writing 1 T 1 (only 5 (negsuc 4095) 57) 9 (refused (refusal 11 5))
    ∷ writing 1 T 1 (only 0 (pos 1) 62) 1 (given (0x67 ∷ []))
    ∷ writing 1 T 1 (only 0 (pos 1) 62) 0 (refused (refusal 9 1))
    ∷ writing 1 late 1 (only 62 (pos 1) 0) 2 (refused (refusal 9 3))
    ∷ writing 0 T 1 [] 9 (refused (refusal 20 0))
    ∷ writing 5 T 1 [] 9 (refused (refusal 20 0))
    ∷ writing 4 T 1 [] 9 (refused (refusal 28 0))
    ∷ writing 3 T 1 [] 9 (refused (refusal 21 0))
    ∷ writing 1 T 1025 [] 9 (refused (refusal 20 0))
    ∷ writing 1 bad 1 (zeros 62) 9 (refused (refusal 21 0))
    ∷ writing 1 bad 1 (zeros 64) 9 (refused (refusal 21 0))
    ∷ writing 1 bad 0 [] 9 (refused (refusal 10 0))
    ∷ writing 1 bad 1 (only 5 (pos 4096) 57) 9 (refused (refusal 10 0))
    ∷ writing 1 twos 1 (only 5 (pos 4096) 57) 9 (refused (refusal 11 5))
    ∷ writing 1 T 1 (only 17 (negsuc 0) 45) 0 (refused (refusal 19 0x11))
    ∷ []

-- ---- all of them

abbrev pub writings : List Writing
writings = blocks ++ (runs ++ refusals)

pub cases : map (λ (w : Writing). write_ac w.plane w.blocks w.codes w.values w.room) writings ≡ map (λ (w : Writing). w.verdict) writings
unfolding every first_fail or_here in_level is_dc inside first_outside digits stuffed padded packed code_count kraft holds distinct good_table place_of code_at word cut ac_half kind_of one_more ahead quiet plan order emit write_block write_blocks tokens lacking spelled written_ac
cases = refl
