-- DC and AC planes written, worked out by hand from the rules: both sides of each edge, each two neighbours in the order of refusals as one input, places told apart. Assumes nothing.
use mathlib.Core.Path.{◌≡◌, refl}
use mathlib.Core.List.{List, [], ◌∷◌, ◌++◌, map}
use mathlib.Core.Bool.{true, false}
use Rattle.std.specs.Prelude.{Some, None}
use Prim.Native.Nat.{ℕ}
use lib.IntN.{pos, negsuc}
use lib.ListN.{replicate}
use Rattle.laws.specs.Index.{every}
use Rattle.laws.specs.First.{first_fail, or_here}
use Rattle.levels.specs.Level.{in_level, is_dc, inside, first_outside}
use Rattle.bit_rules.specs.Digits.{digits}
use Rattle.bit_rules.specs.Pack.{stuffed, padded, packed}
use Rattle.bit_rules.specs.Table.{Table, table, code_count, kraft, holds, distinct, good_table}
use Rattle.bit_rules.specs.Write.{place_of, code_at, word}
use Rattle.plane_rules.specs.Dc.{dc_half, dc_bit, written_dc, write_dc}
use Rattle.plane_rules.specs.Task.{walk, ended}
use Rattle.plane_rules.specs.AcRead.{cut}
use Rattle.plane_rules.specs.AcWrite.{ac_half, keep, still, fresh, kind_of, one_more, ahead, quiet, plan, order, class, emit, after, write_block, write_blocks, tokens, lacking, spelled, written_ac, write_ac}
use Rattle.plane_rules.proofs.Cases.{block}
use Rattle.plane_rules.proofs.ReadCases.{Case, ◌gives◌, ◌refuses◌at◌, Holds, zeros, at_five, no_table}

-- ---- DC

abbrev dc_writes : List (Case ℕ)
dc_writes =
    (write_dc 0 1 [] 0 refuses 20 at 0)
    ∷ (write_dc 5 1 [] 0 refuses 20 at 0)
    ∷ (write_dc 1 1025 [] 0 refuses 20 at 0)
    ∷ (write_dc 1 1024 [] 0 refuses 21 at 0)
    -- 21 before 11, 11 before 9
    ∷ (write_dc 3 1 (pos 0 ∷ pos 16384 ∷ []) 0 refuses 21 at 0)
    ∷ (write_dc 1 2 (pos 0 ∷ pos 4096 ∷ []) 0 refuses 11 at 1)
    -- "The writer takes level j values": -2^(11+j) to 2^(11+j)-1; 9 counts the 00 behind FF
    ∷ (write_dc 1 1 (pos 4095 ∷ []) 1 refuses 9 at 2)
    ∷ (write_dc 1 1 (pos 4095 ∷ []) 2 gives (0xFF ∷ 0 ∷ []))
    ∷ (write_dc 1 1 (negsuc 4095 ∷ []) 1 gives (0x7F ∷ []))
    ∷ (write_dc 1 1 (negsuc 4096 ∷ []) 1 refuses 11 at 0)
    ∷ (write_dc 3 1 (pos 16383 ∷ []) 2 gives (0xFF ∷ 0 ∷ []))
    ∷ (write_dc 3 1 (pos 16384 ∷ []) 2 refuses 11 at 0)
    -- 5, -1, 0 against 2, -1, 0: the bits 1, 1, 0, then ones; -3 against -2 is 1, -2 against -1 is 0
    ∷ (write_dc 1 3 (pos 5 ∷ negsuc 0 ∷ pos 0 ∷ []) 1 gives (0xDF ∷ []))
    ∷ (write_dc 1 2 (negsuc 2 ∷ negsuc 1 ∷ []) 1 gives (0xBF ∷ []))
    ∷ (write_dc 1 0 [] 0 gives [])
    ∷ []

pub dc_writes_lem : Holds dc_writes
unfolding every first_fail or_here in_level is_dc inside first_outside stuffed padded packed dc_half dc_bit written_dc
dc_writes_lem = refl

-- ---- AC

-- the codes 000, 001, 010, 011, 100 of an end, a new value, a run of two or three, sixteen zeros, and one more value
abbrev pub five : ℕ → Table
five more = table (0 ∷ 0 ∷ 5 ∷ replicate 13 0) (0x00 ∷ 0x01 ∷ 0x10 ∷ 0xF0 ∷ more ∷ [])

-- a table that holds F0 alone, and one with the code 0 for an end alone
abbrev pub only_f0 : Table
only_f0 = table (0 ∷ 1 ∷ replicate 14 0) (0xF0 ∷ [])

abbrev only_end : Table
only_end = table (1 ∷ replicate 15 0) (0x00 ∷ [])

abbrev ac_order : List (Case ℕ)
ac_order =
    (write_ac 0 1 (five 0x11) [] 0 refuses 20 at 0)
    ∷ (write_ac 5 1 (five 0x11) [] 0 refuses 20 at 0)
    ∷ (write_ac 1 1025 (five 0x11) [] 0 refuses 20 at 0)
    ∷ (write_ac 1 1024 (five 0x11) [] 0 refuses 21 at 0)
    -- 21 before 10, 10 before 11, 11 before 19, 19 before 9; the table is tested with no blocks
    ∷ (write_ac 3 1 no_table [] 0 refuses 21 at 0)
    ∷ (write_ac 1 1 no_table (at_five (pos 4096)) 0 refuses 10 at 0)
    ∷ (write_ac 1 1 only_f0 (at_five (pos 4096)) 0 refuses 11 at 5)
    ∷ (write_ac 1 1 only_f0 (block (pos 1)) 0 refuses 19 at 1)
    ∷ (write_ac 1 1 (five 0x11) (block (pos 1)) 0 refuses 9 at 1)
    ∷ (write_ac 1 0 no_table [] 0 refuses 10 at 0)
    ∷ (write_ac 1 0 (five 0x11) [] 0 gives [])
    -- the level is the plane's own
    ∷ (write_ac 1 1 (five 0x11) (at_five (pos 4095)) 0 refuses 9 at 1)
    ∷ (write_ac 1 1 (five 0x11) (at_five (negsuc 4094)) 0 refuses 9 at 1)
    ∷ (write_ac 1 1 (five 0x11) (at_five (negsuc 4095)) 0 refuses 11 at 5)
    ∷ (write_ac 3 1 (five 0x11) (at_five (pos 16383)) 0 refuses 9 at 1)
    ∷ (write_ac 3 1 (five 0x11) (at_five (pos 16384)) 0 refuses 11 at 5)
    -- "first needed in writing order": the end of block 0 stands before the new value of block 1; 15 zeros and a new value are F1
    ∷ (write_ac 1 2 only_f0 (zeros 63 ++ block (pos 1)) 0 refuses 19 at 0)
    ∷ (write_ac 1 2 only_end (zeros 63 ++ block (pos 1)) 0 refuses 19 at 1)
    ∷ (write_ac 1 1 (five 0x11) (zeros 15 ++ (pos 1 ∷ zeros 47)) 9 refuses 19 at 0xF1)
    -- a 0, then 63 ones: 7F, and seven times FF 00
    ∷ (write_ac 1 1 only_end (replicate 63 (pos 3)) 14 refuses 9 at 15)
    ∷ []

pub ac_order_lem : Holds ac_order
unfolding every first_fail or_here in_level is_dc inside first_outside digits stuffed padded packed code_count kraft holds distinct good_table place_of code_at word cut ac_half kind_of one_more ahead quiet plan order emit write_block write_blocks tokens lacking spelled written_ac
ac_order_lem = refl

abbrev ac_writes : List (Case ℕ)
ac_writes =
    -- a new value is 001 and its sign; the end 000 "directly after the last new value"
    (write_ac 1 1 (five 0x11) (block (pos 1)) 9 gives (0x31 ∷ []))
    ∷ (write_ac 1 1 (five 0x11) (block (negsuc 0)) 9 gives (0x21 ∷ []))
    -- "AC toward zero": -3 against -1 is the correction 1, -2 against -1 is 0; the end stands at position 1
    ∷ (write_ac 1 1 (five 0x11) (block (negsuc 2)) 9 gives (0x1F ∷ []))
    ∷ (write_ac 1 1 (five 0x11) (block (negsuc 1)) 9 gives (0x0F ∷ []))
    -- one zero before the new value: 100 is 11
    ∷ (write_ac 1 1 (five 0x11) (pos 0 ∷ block (pos 1)) 9 refuses 21 at 0)
    ∷ (write_ac 1 1 (five 0x11) (pos 0 ∷ pos 1 ∷ zeros 61) 9 gives (0x91 ∷ []))
    -- a correction on the way stands behind the sign; one behind the last new value stands behind the end
    ∷ (write_ac 1 1 (five 0x11) (pos 3 ∷ pos 1 ∷ zeros 61) 9 gives (0x38 ∷ []))
    ∷ (write_ac 1 1 (five 0x11) (pos 1 ∷ pos 3 ∷ zeros 61) 9 gives (0x31 ∷ []))
    -- "the 16-zero code only before a later new value"
    ∷ (write_ac 1 1 (five 0x11) (zeros 16 ++ (pos 1 ∷ zeros 46)) 9 gives (0x66 ∷ 0x3F ∷ []))
    ∷ (write_ac 1 1 (five 0x11) (zeros 63) 9 gives (0x1F ∷ []))
    -- "the longest end run": 000 of one block, 010 and 0 of two, 010 and 1 of three
    ∷ (write_ac 1 2 (five 0x11) (zeros 126) 9 gives (0x4F ∷ []))
    ∷ (write_ac 1 3 (five 0x11) (zeros 189) 9 gives (0x5F ∷ []))
    -- a new value at 63 needs no end and its block belongs to no run
    ∷ (write_ac 1 1 (five 0xE1) (zeros 62 ++ (pos 1 ∷ [])) 9 gives (0x6D ∷ 0xCF ∷ []))
    ∷ (write_ac 1 2 (five 0xE1) (zeros 62 ++ (pos 1 ∷ zeros 63)) 9 gives (0x6D ∷ 0xC8 ∷ []))
    -- a block of 63 corrections joins a run
    ∷ (write_ac 1 2 (five 0x11) (zeros 63 ++ replicate 63 (pos 2)) 9 gives (0x40 ∷ 0 ∷ 0 ∷ 0 ∷ 0 ∷ 0 ∷ 0 ∷ 0 ∷ 0x1F ∷ []))
    ∷ []

pub ac_writes_lem : Holds ac_writes
unfolding every first_fail or_here in_level is_dc inside first_outside digits stuffed padded packed code_count kraft holds distinct good_table place_of code_at word cut ac_half kind_of one_more ahead quiet plan order emit write_block write_blocks tokens lacking spelled written_ac
ac_writes_lem = refl

-- r of a run: "2^r + e", r below 15
pub classes : map class (1 ∷ 2 ∷ 3 ∷ 4 ∷ 1023 ∷ 1024 ∷ 16383 ∷ 16384 ∷ 32768 ∷ []) ≡ 0 ∷ 1 ∷ 1 ∷ 2 ∷ 9 ∷ 10 ∷ 13 ∷ 14 ∷ 14 ∷ []
unfolding order
classes = refl

-- a correction passes no zero; the last zero ends a walk; an end run goes on
pub between_values : (
    after (walk 1 None) (keep true)
    ∷ after (walk 1 None) still
    ∷ after (walk 0 None) still
    ∷ after (walk 0 (Some true)) (fresh true)
    ∷ after (ended 2) still
    ∷ after (ended 2) (keep false)
    ∷ [])
    ≡ (Some (walk 1 None) ∷ Some (walk 0 None) ∷ None ∷ None ∷ Some (ended 2) ∷ Some (ended 2) ∷ [])
between_values = refl
