-- Readings of AC planes by computation: the rules R5 to R16 where case c of the whiteboard (Cases) does not meet them. Assumes nothing.
use mathlib.Core.Path.{◌≡◌, refl}
use mathlib.Core.List.{List, [], ◌∷◌, ◌++◌, map}
use Prim.Native.Nat.{ℕ}
use lib.IntN.{ℤ, pos}
use lib.ListN.{replicate}
use Rattle.laws.specs.Index.{every}
use Rattle.laws.specs.First.{or_here, first_fail}
use Rattle.answers.specs.Verdict.{given, refused, refusal_at, refusal}
use Rattle.levels.specs.Level.{in_level, is_dc, inside, first_outside}
use Rattle.bit_rules.specs.Digits.{digits}
use Rattle.bit_rules.specs.Source.{opened, after_ff, next_byte, take_from, take_bit, only_padding}
use Rattle.bit_rules.specs.Table.{Table, table, code_count, kraft, holds, distinct, good_table}
use Rattle.bit_rules.specs.Read.{code_from, take_code}
use Rattle.plane_rules.specs.Plane.{onto, closed}
use Rattle.bit_rules.specs.Number.{take_number}
use Rattle.plane_rules.specs.AcRead.{end_run, meaning, task_at, position, block_end, ac_block, cut, ac_blocks, read_ac}
use Rattle.plane_rules.proofs.Cases.{T, block, Reading, reading}

abbrev pub zeros : ℕ → List ℤ
zeros n = replicate n (pos 0)

-- a block with a value at position 63
abbrev pub last : ℤ → List ℤ
last value = zeros 62 ++ (value ∷ [])

-- the codes 00, 01, 10 of the values 00, 01, 10: an end run of 2 or 3 blocks
abbrev pub long_run : Table
long_run = table (0 ∷ 3 ∷ replicate 14 0) (0x00 ∷ 0x01 ∷ 0x10 ∷ [])

-- one block, plane 1
abbrev pub rules : List Reading
rules =
    -- sign 1, then correction 0: "Reading corrections before the sign bit." would give 7 and -1
    reading T (block (pos 3)) (0x63 ∷ []) (given (pos 6 ∷ pos 1 ∷ zeros 61))
    -- "through the 16th zero, which stays zero"
    ∷ reading T (zeros 63) (0x99 ∷ []) (given (zeros 16 ++ (pos 1 ∷ zeros 46)))
    -- "A block whose position 63 was reached needs no code": 15 new values, then three times F0
    ∷ reading T (zeros 63) (0x6d ∷ 0xb6 ∷ 0xdb ∷ 0x6d ∷ 0xb6 ∷ 0xdd ∷ 0x5f ∷ []) (given (replicate 15 (pos 1) ++ zeros 48))
    -- "16 comes only when the walk has passed position 63, after the corrections on its way"
    ∷ reading T (zeros 63) (0xaa ∷ []) (refused (refusal_at 16 0 0))
    ∷ reading T (last (pos 3)) (0xaa ∷ []) (refused (refusal_at 12 0 1))
    ∷ reading T (last (pos 3)) (0xaa ∷ 0x80 ∷ []) (refused (refusal_at 16 0 1))
    -- "17 comes as soon as e is read, before any correction": no bit is left for position 4
    ∷ reading long_run (pos 3 ∷ pos 3 ∷ pos 0 ∷ pos 3 ∷ zeros 59) (0x65 ∷ []) (refused (refusal_at 17 0 0))
    -- "16 bits and no code"; the data end before; "FF without 00 after it"
    ∷ reading T (zeros 63) (0xff ∷ 0 ∷ 0xff ∷ 0 ∷ []) (refused (refusal_at 14 0 2))
    ∷ reading T (zeros 63) (0xff ∷ 0 ∷ []) (refused (refusal_at 12 0 2))
    ∷ reading T (zeros 63) (0xff ∷ 1 ∷ []) (refused (refusal_at 13 0 0))
    ∷ []

-- and with other counts of blocks: a run of two; the place is the block, the second place the byte; "With no blocks the data must be empty, else 18, place 0."
pub beyond_c : (map (λ (r : Reading). read_ac 1 1 r.codes r.values r.bytes 63) rules ≡ map (λ (r : Reading). r.verdict) rules)
    × (read_ac 1 2 long_run (block (pos 3) ++ block (pos 3)) (0x97 ∷ []) 126 ≡ given (block (pos 7) ++ block (pos 6)))
    × (read_ac 1 2 T (zeros 126) (0x3f ∷ []) 126 ≡ refused (refusal_at 12 1 1))
    × (read_ac 1 0 T [] [] 0 ≡ given [])
    × (read_ac 1 0 T [] (0xff ∷ []) 0 ≡ refused (refusal 18 0))
unfolding every or_here first_fail in_level is_dc inside first_outside digits opened after_ff next_byte take_from take_bit only_padding code_count kraft holds distinct good_table code_from take_code onto closed take_number end_run meaning task_at position block_end ac_block cut ac_blocks read_ac
beyond_c = (refl, refl, refl, refl, refl)
