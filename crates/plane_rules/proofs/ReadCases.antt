-- Readings of DC and AC planes worked out by hand from the rules: both sides of each edge, each two neighbours in the order of refusals as one input, places told apart. Assumes nothing.
use mathlib.Core.Path.{◌≡◌, refl}
use mathlib.Core.List.{List, [], ◌∷◌, ◌++◌, map}
use mathlib.Core.Bool.{true}
use Rattle.std.specs.Prelude.{Some, None}
use Prim.Native.Nat.{ℕ}
use lib.IntN.{ℤ, pos, negsuc}
use lib.ListN.{replicate}
use Rattle.laws.specs.Index.{every}
use Rattle.laws.specs.First.{first_fail, or_here}
use Rattle.answers.specs.Verdict.{Verdict, given, refused, refusal_at, refusal}
use Rattle.levels.specs.Level.{in_level, is_dc, inside, first_outside}
use Rattle.bit_rules.specs.Digits.{digits}
use Rattle.bit_rules.specs.Source.{source, got, stopped, stop, opened, after_ff, next_byte, take_from, take_bit, only_padding}
use Rattle.bit_rules.specs.Table.{Table, table, code_count, kraft, holds, distinct, good_table}
use Rattle.bit_rules.specs.Read.{code_from, take_code}
use Rattle.plane_rules.specs.Plane.{onto, closed}
use Rattle.plane_rules.specs.Task.{walk, ended, over}
use Rattle.plane_rules.specs.Dc.{new_dc, dc_blocks, read_dc}
use Rattle.bit_rules.specs.Number.{take_number}
use Rattle.plane_rules.specs.AcRead.{end_run, meaning, task_at, position, block_end, ac_block, cut, ac_blocks, read_ac}
use Rattle.plane_rules.proofs.Cases.{T}

-- what a call comes to, and what the rules say of it
pub record Case (A : Type 0) : Type 0 where
  pub comes : Verdict A
  pub says : Verdict A

infixr 6 ◌gives◌
abbrev pub ◌gives◌ : {A : Type 0} → Verdict A → List A → Case A
◌gives◌ comes ys = record { comes = comes; says = given ys }

infixr 6 ◌refuses◌at◌
abbrev pub ◌refuses◌at◌ : {A : Type 0} → Verdict A → ℕ → ℕ → Case A
◌refuses◌at◌ comes number place = record { comes = comes; says = refused (refusal number place) }

-- with a second place
infixr 6 ◌stops◌block◌byte◌
abbrev pub ◌stops◌block◌byte◌ : {A : Type 0} → Verdict A → ℕ → ℕ → ℕ → Case A
◌stops◌block◌byte◌ comes number place second = record { comes = comes; says = refused (refusal_at number place second) }

abbrev pub Holds : {A : Type 0} → List (Case A) → Type 0
Holds cases = map (λ c. c.comes) cases ≡ map (λ c. c.says) cases

abbrev pub zeros : ℕ → List ℤ
zeros n = replicate n (pos 0)

-- one AC block, zero but for index 5
abbrev pub at_five : ℤ → List ℤ
at_five value = zeros 5 ++ (value ∷ zeros 57)

-- no table: "Anything else, lengths too, is 10"
abbrev pub no_table : Table
no_table = table [] []

-- ---- DC

abbrev dc_reads : List (Case ℤ)
dc_reads =
    -- "j is 1 to 4", "0 to 1,024 blocks a call", 20 before 21
    (read_dc 0 1 [] [] 0 refuses 20 at 0)
    ∷ (read_dc 5 1 [] [] 0 refuses 20 at 0)
    ∷ (read_dc 1 1025 [] [] 0 refuses 20 at 0)
    ∷ (read_dc 1 1024 [] [] 0 refuses 21 at 0)
    ∷ (read_dc 4 1 [] [] 0 refuses 21 at 0)
    -- 21 before 11, 11 before 9, 9 before the bits
    ∷ (read_dc 1 1 (pos 0 ∷ pos 2048 ∷ []) [] 9 refuses 21 at 0)
    ∷ (read_dc 1 2 (pos 0 ∷ pos 2048 ∷ []) [] 0 refuses 11 at 1)
    ∷ (read_dc 1 1 (pos 0 ∷ []) [] 0 refuses 9 at 1)
    -- "DC in -2^(11+j) to 2^(11+j)-1", j being the level below the plane; "new DC = 2c + bit"
    ∷ (read_dc 1 1 (pos 2047 ∷ []) (0x7F ∷ []) 1 gives (pos 4094 ∷ []))
    ∷ (read_dc 1 1 (pos 2048 ∷ []) (0x7F ∷ []) 1 refuses 11 at 0)
    ∷ (read_dc 1 1 (negsuc 2047 ∷ []) (0xFF ∷ 0 ∷ []) 1 gives (negsuc 4094 ∷ []))
    ∷ (read_dc 1 1 (negsuc 2048 ∷ []) (0xFF ∷ 0 ∷ []) 1 refuses 11 at 0)
    ∷ (read_dc 4 1 (pos 16383 ∷ []) (0x7F ∷ []) 1 gives (pos 32766 ∷ []))
    ∷ (read_dc 4 1 (pos 16384 ∷ []) (0x7F ∷ []) 1 refuses 11 at 0)
    -- "data end early", "FF as last byte is 12", "FF without 00 after it": the block; a byte of which no bit is needed is not read
    -- "the offset of .. the byte that was missing; .. an FF that ends the data counts the byte after it as missing, and 13 gives its FF"
    ∷ (read_dc 1 1 (zeros 1) [] 1 stops 12 block 0 byte 0)
    ∷ (read_dc 1 9 (zeros 9) (0 ∷ []) 9 stops 12 block 8 byte 1)
    ∷ (read_dc 1 1 (zeros 1) (0xFF ∷ []) 1 stops 12 block 0 byte 1)
    ∷ (read_dc 1 9 (zeros 9) (0 ∷ 0xFF ∷ []) 9 stops 12 block 8 byte 2)
    ∷ (read_dc 1 9 (zeros 9) (0 ∷ 0xFF ∷ 1 ∷ []) 9 stops 13 block 8 byte 1)
    -- the same behind a stuffed FF 00, whose 00 counts as a byte
    ∷ (read_dc 1 17 (zeros 17) (0xFF ∷ 0 ∷ 0x43 ∷ []) 17 stops 12 block 16 byte 3)
    ∷ (read_dc 1 17 (zeros 17) (0xFF ∷ 0 ∷ 0x43 ∷ 0xFF ∷ []) 17 stops 12 block 16 byte 4)
    ∷ (read_dc 1 17 (zeros 17) (0xFF ∷ 0 ∷ 0x43 ∷ 0xFF ∷ 1 ∷ []) 17 stops 13 block 16 byte 3)
    ∷ (read_dc 1 8 (zeros 8) (0 ∷ 0xFF ∷ 1 ∷ []) 8 refuses 18 at 1)
    -- "padding not ones, or bytes left": "bytes read", the 00 with its FF
    ∷ (read_dc 1 1 (zeros 1) (0x80 ∷ []) 1 refuses 18 at 1)
    ∷ (read_dc 1 1 (zeros 1) (0xBF ∷ 0xFF ∷ []) 1 refuses 18 at 1)
    ∷ (read_dc 1 1 (zeros 1) (0xFF ∷ 0 ∷ 0 ∷ []) 1 refuses 18 at 2)
    -- "With no blocks the data must be empty, else 18, place 0."
    ∷ (read_dc 1 0 [] [] 0 gives [])
    ∷ (read_dc 1 0 [] (0xFF ∷ []) 0 refuses 18 at 0)
    ∷ []

pub dc_reads_lem : Holds dc_reads
unfolding every first_fail or_here in_level is_dc inside first_outside digits opened after_ff next_byte take_from take_bit only_padding onto closed new_dc dc_blocks read_dc
dc_reads_lem = refl

-- ---- AC: the tests

abbrev ac_tests : List (Case ℤ)
ac_tests =
    (read_ac 0 1 T [] [] 0 refuses 20 at 0)
    ∷ (read_ac 5 1 T [] [] 0 refuses 20 at 0)
    ∷ (read_ac 1 1025 T [] [] 0 refuses 20 at 0)
    ∷ (read_ac 1 1024 T [] [] 0 refuses 21 at 0)
    -- 21 before 10, 10 before 11, 11 before 9, 9 before the bits; the table is tested with no blocks
    ∷ (read_ac 4 1 no_table [] [] 0 refuses 21 at 0)
    ∷ (read_ac 1 1 no_table (at_five (pos 2048)) [] 0 refuses 10 at 0)
    ∷ (read_ac 1 1 T (at_five (pos 2048)) [] 0 refuses 11 at 5)
    ∷ (read_ac 1 1 T (zeros 63) [] 62 refuses 9 at 63)
    ∷ (read_ac 1 0 no_table [] [] 0 refuses 10 at 0)
    -- "an AC value lies in -(2^(11+j)-1) to 2^(11+j)-1"
    ∷ (read_ac 1 1 T (at_five (pos 2047)) [] 0 refuses 9 at 63)
    ∷ (read_ac 1 1 T (at_five (negsuc 2046)) [] 0 refuses 9 at 63)
    ∷ (read_ac 1 1 T (at_five (negsuc 2047)) [] 0 refuses 11 at 5)
    ∷ (read_ac 4 1 T (at_five (pos 16383)) [] 0 refuses 9 at 63)
    ∷ (read_ac 4 1 T (at_five (pos 16384)) [] 0 refuses 11 at 5)
    ∷ (read_ac 1 0 T [] [] 0 gives [])
    ∷ (read_ac 1 0 T [] (0xFF ∷ []) 0 refuses 18 at 0)
    ∷ []

pub ac_tests_lem : Holds ac_tests
unfolding every first_fail or_here in_level is_dc inside first_outside digits opened after_ff next_byte take_from take_bit only_padding code_count kraft holds distinct good_table code_from take_code onto closed take_number end_run meaning task_at position block_end ac_block cut ac_blocks read_ac
ac_tests_lem = refl

-- ---- AC: the codes

-- the codes 000, 001, 010, 011, 100
abbrev U : Table
U = table (0 ∷ 0 ∷ 5 ∷ replicate 13 0) (0x00 ∷ 0x01 ∷ 0x10 ∷ 0x21 ∷ 0xF0 ∷ [])

-- the code 00000000 of a value that is not used in refinement
abbrev unused : Table
unused = table (replicate 7 0 ++ (1 ∷ replicate 8 0)) (0x12 ∷ [])

abbrev ac_reads : List (Case ℤ)
ac_reads =
    -- 011 is 21, sign 1: "the zero after r zeros becomes +1"; then 000 ends the block
    (read_ac 1 1 U (zeros 63) (0x71 ∷ []) 63 gives (pos 0 ∷ pos 0 ∷ pos 1 ∷ zeros 60))
    -- the sign 1 first, then the correction 1 on its way, which counts no zero
    ∷ (read_ac 1 1 U (pos 0 ∷ pos 3 ∷ zeros 61) (0x78 ∷ []) 63 gives (pos 0 ∷ pos 7 ∷ pos 0 ∷ pos 1 ∷ zeros 59))
    -- "moved one away from zero if the bit is 1"; sign 0 is -1
    ∷ (read_ac 1 1 T (negsuc 2 ∷ zeros 62) (0x3F ∷ []) 63 gives (negsuc 6 ∷ zeros 62))
    ∷ (read_ac 1 1 T (negsuc 2 ∷ zeros 62) (0x1F ∷ []) 63 gives (negsuc 5 ∷ zeros 62))
    ∷ (read_ac 1 1 T (zeros 63) (0x47 ∷ []) 63 gives (negsuc 0 ∷ zeros 62))
    -- "s above 1 gives 15", before any further bit
    ∷ (read_ac 1 1 unused (zeros 63) (0 ∷ []) 63 stops 15 block 0 byte 0)
    -- a run of two blocks, 010 and e 0: the fifth correction is the last bit; the sixth is missing, or broken, in block 1
    ∷ (read_ac 1 2 U (zeros 63 ++ (replicate 4 (pos 3) ++ zeros 59)) (0x4F ∷ []) 126 gives (zeros 63 ++ (replicate 4 (pos 7) ++ zeros 59)))
    ∷ (read_ac 1 2 U (zeros 63 ++ (replicate 5 (pos 3) ++ zeros 58)) (0x4F ∷ []) 126 stops 12 block 1 byte 1)
    ∷ (read_ac 1 2 U (zeros 63 ++ (replicate 5 (pos 3) ++ zeros 58)) (0x4F ∷ 0xFF ∷ 1 ∷ []) 126 stops 13 block 1 byte 1)
    -- "a run of 2^r + e blocks": two are too many for the one that is left, in block 0 and in block 1; three for two
    ∷ (read_ac 1 1 U (zeros 63) (0x4F ∷ []) 63 stops 17 block 0 byte 0)
    ∷ (read_ac 1 2 U (zeros 126) (0x09 ∷ []) 126 stops 17 block 1 byte 0)
    ∷ (read_ac 1 2 U (zeros 126) (0x5F ∷ []) 126 stops 17 block 0 byte 0)
    -- F0 four times has "no place left", in block 1
    ∷ (read_ac 1 2 T (zeros 126) (0x2A ∷ 0xBF ∷ []) 126 stops 16 block 1 byte 1)
    -- "16 bits and no code" needs its sixteen bits
    ∷ (read_ac 1 2 T (zeros 126) (0x3F ∷ 0xFF ∷ 0 ∷ 0xC0 ∷ []) 126 stops 14 block 1 byte 3)
    ∷ (read_ac 1 2 T (zeros 126) (0x3F ∷ 0xFF ∷ 0 ∷ []) 126 stops 12 block 1 byte 3)
    -- bytes left
    ∷ (read_ac 1 1 T (zeros 63) (0x3F ∷ 0xFF ∷ []) 63 refuses 18 at 1)
    ∷ []

pub ac_reads_lem : Holds ac_reads
unfolding every first_fail or_here in_level is_dc inside first_outside digits opened after_ff next_byte take_from take_bit only_padding code_count kraft holds distinct good_table code_from take_code onto closed take_number end_run meaning task_at position block_end ac_block cut ac_blocks read_ac
ac_reads_lem = refl

-- ---- AC: which byte

-- the codes 000, 001, 010, 011, 100, 101
abbrev W : Table
W = table (0 ∷ 0 ∷ 6 ∷ replicate 13 0) (0x00 ∷ 0x01 ∷ 0x30 ∷ 0x12 ∷ 0xF0 ∷ 0xF1 ∷ [])

-- a block with n values to correct, then zeros
abbrev threes : ℕ → ℕ → List ℤ
threes n rest = replicate n (pos 3) ++ zeros rest

abbrev ac_bytes : List (Case ℤ)
ac_bytes =
    -- 12: no data; behind one byte; FF as last byte: "the byte after it"; 13 "gives its FF"
    (read_ac 1 1 T (zeros 63) [] 63 stops 12 block 0 byte 0)
    ∷ (read_ac 1 1 T (threes 7 56) (0x3F ∷ []) 63 stops 12 block 0 byte 1)
    ∷ (read_ac 1 1 T (threes 7 56) (0x3F ∷ 0xFF ∷ []) 63 stops 12 block 0 byte 2)
    ∷ (read_ac 1 1 T (threes 7 56) (0x3F ∷ 0xFF ∷ 0xD9 ∷ 0x43 ∷ []) 63 stops 13 block 0 byte 1)
    -- 14: the sixteenth bit, in the second byte of three, and in the FF of FF 00
    ∷ (read_ac 1 1 T (zeros 63) (0xC0 ∷ 0x43 ∷ 0x43 ∷ []) 63 stops 14 block 0 byte 1)
    ∷ (read_ac 1 1 T (zeros 63) (0xC0 ∷ 0xFF ∷ 0 ∷ 0x43 ∷ []) 63 stops 14 block 0 byte 1)
    -- 15: F0, F0, then 011 with its last bit in the second byte, plain and FF 00
    ∷ (read_ac 1 1 W (zeros 63) (0x91 ∷ 0x80 ∷ []) 63 stops 15 block 0 byte 1)
    ∷ (read_ac 1 1 W (zeros 63) (0x91 ∷ 0xFF ∷ 0 ∷ 0x43 ∷ []) 63 stops 15 block 0 byte 1)
    -- 16: four times F0, the last bit asked for is the correction of position 63, plain and FF 00
    ∷ (read_ac 1 1 T (zeros 62 ++ (pos 3 ∷ [])) (0xAA ∷ 0x00 ∷ []) 63 stops 16 block 0 byte 1)
    ∷ (read_ac 1 1 T (zeros 62 ++ (pos 3 ∷ [])) (0xAA ∷ 0xFF ∷ 0 ∷ 0x43 ∷ []) 63 stops 16 block 0 byte 1)
    -- 16 behind 63 corrections: code 01, sign 1, and the last correction is bit 65
    ∷ (read_ac 1 1 T (threes 63 0) (0x60 ∷ replicate 9 0) 63 stops 16 block 0 byte 8)
    -- 16 behind a sign: 000 and a correction in block 0; F0, F0, F0, F1 in block 1 end with the second byte; the sign is in the third
    ∷ (read_ac 1 2 W (threes 1 62 ++ zeros 63) (0x19 ∷ 0x25 ∷ 0xFF ∷ 0 ∷ []) 126 stops 16 block 1 byte 2)
    -- 16 behind a code alone: 000 and three corrections in block 0, then four times F0, the last of which ends in the third byte
    ∷ (read_ac 1 2 W (threes 3 60 ++ zeros 63) (0x1E ∷ 0x49 ∷ 0x3F ∷ []) 126 stops 16 block 1 byte 2)
    -- 17 with r 3: 010 ends in the first byte, e in the second, plain and FF 00
    ∷ (read_ac 1 1 W (zeros 63) (0x43 ∷ []) 63 stops 17 block 0 byte 0)
    ∷ (read_ac 1 2 W (threes 1 62 ++ zeros 63) (0x14 ∷ 0x3F ∷ []) 126 stops 17 block 1 byte 1)
    ∷ (read_ac 1 2 W (threes 1 62 ++ zeros 63) (0x14 ∷ 0xFF ∷ 0 ∷ 0x43 ∷ []) 126 stops 17 block 1 byte 1)
    -- behind a stuffed FF 00, block 1 begins with byte 3: 12, 12, 13, 14, 15, 16, 17
    ∷ (read_ac 1 2 T (threes 14 49 ++ zeros 63) (0x3F ∷ 0xFF ∷ 0 ∷ []) 126 stops 12 block 1 byte 3)
    ∷ (read_ac 1 2 T (threes 14 49 ++ zeros 63) (0x3F ∷ 0xFF ∷ 0 ∷ 0xFF ∷ []) 126 stops 12 block 1 byte 4)
    ∷ (read_ac 1 2 T (threes 14 49 ++ zeros 63) (0x3F ∷ 0xFF ∷ 0 ∷ 0xFF ∷ 1 ∷ []) 126 stops 13 block 1 byte 3)
    ∷ (read_ac 1 2 T (threes 14 49 ++ zeros 63) (0x3F ∷ 0xFF ∷ 0 ∷ 0xFF ∷ 0 ∷ 0xFF ∷ 0 ∷ []) 126 stops 14 block 1 byte 5)
    ∷ (read_ac 1 2 W (threes 13 50 ++ zeros 63) (0x1F ∷ 0xFF ∷ 0 ∷ 0x91 ∷ 0xFF ∷ 0 ∷ []) 126 stops 15 block 1 byte 4)
    ∷ (read_ac 1 2 T (threes 14 49 ++ (zeros 62 ++ (pos 3 ∷ []))) (0x3F ∷ 0xFF ∷ 0 ∷ 0xAA ∷ 0xFF ∷ 0 ∷ []) 126 stops 16 block 1 byte 4)
    ∷ (read_ac 1 2 W (threes 13 50 ++ zeros 63) (0x1F ∷ 0xFF ∷ 0 ∷ 0x43 ∷ []) 126 stops 17 block 1 byte 3)
    -- "All other answers carry 0": 18 behind two bytes
    ∷ (read_ac 1 1 T (threes 7 56) (0x3F ∷ 0x80 ∷ []) 63 refuses 18 at 2)
    ∷ []

pub ac_bytes_lem : Holds ac_bytes
unfolding every first_fail or_here in_level is_dc inside first_outside digits opened after_ff next_byte take_from take_bit only_padding code_count kraft holds distinct good_table code_from take_code onto closed take_number end_run meaning task_at position block_end ac_block cut ac_blocks read_ac
ac_bytes_lem = refl

-- 17 with r 0: the byte of the code's last bit. A run of one block passes no last block, so no plane is refused so
pub run_of_one : (end_run 0 0 (source (true ∷ []) [] 4 3) ≡ stopped (stop 17 3)) × (end_run 1 0 (source (true ∷ []) [] 4 3) ≡ got (ended 0) (source (true ∷ []) [] 4 3))
unfolding take_number end_run
run_of_one = (refl, refl)

-- "a run of 2^r + e blocks ends here, this one included": a run goes from block to block, a walk does not
pub between_blocks : map over (None ∷ Some (ended 0) ∷ Some (ended 1) ∷ Some (ended 5) ∷ Some (walk 3 None) ∷ []) ≡ (None ∷ None ∷ Some (ended 0) ∷ Some (ended 4) ∷ None ∷ [])
between_blocks = refl
