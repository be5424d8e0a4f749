-- Level 4 (E11), worked out by hand: our writer refuses it directly behind 20, the rules write it, the readers read it. Assumes nothing.
use mathlib.Core.Path.{refl}
use mathlib.Core.List.{List, [], ◌∷◌}
use Prim.Native.Nat.{ℕ}
use lib.IntN.{ℤ, pos, negsuc}
use Rattle.laws.specs.Index.{every}
use Rattle.laws.specs.First.{first_fail, or_here}
use Rattle.levels.specs.Level.{in_level, is_dc, inside, first_outside}
use Rattle.bit_rules.specs.Digits.{digits}
use Rattle.bit_rules.specs.Source.{opened, after_ff, next_byte, take_from, take_bit, only_padding}
use Rattle.bit_rules.specs.Pack.{stuffed, padded, packed}
use Rattle.bit_rules.specs.Table.{code_count, kraft, holds, distinct, good_table}
use Rattle.bit_rules.specs.Read.{code_from, take_code}
use Rattle.bit_rules.specs.Number.{take_number}
use Rattle.bit_rules.specs.Write.{place_of, code_at, word}
use Rattle.plane_rules.specs.Plane.{the_rules, onto, closed}
use Rattle.plane_rules.specs.Dc.{new_dc, dc_blocks, read_dc, dc_half, dc_bit, written_dc, write_dc}
use Rattle.plane_rules.specs.AcRead.{end_run, meaning, task_at, position, block_end, ac_block, cut, ac_blocks, read_ac}
use Rattle.plane_rules.specs.AcWrite.{ac_half, kind_of, one_more, ahead, quiet, plan, order, emit, write_block, write_blocks, tokens, lacking, spelled, written_ac, write_ac}
use Rattle.plane_rules.proofs.Cases.{block}
use Rattle.plane_rules.proofs.ReadCases.{Case, ◌gives◌, ◌refuses◌at◌, Holds, zeros, at_five, no_table}
use Rattle.plane_rules.proofs.WriteCases.{five, only_f0}

abbrev written : List (Case ℕ)
written =
    -- "The writer refuses level 4 from now on.": good values, no blocks, a wrong length, values out of range, no room
    (write_dc 4 1 (pos 5 ∷ []) 9 refuses 28 at 0)
    ∷ (write_dc 4 0 [] 0 refuses 28 at 0)
    ∷ (write_dc 4 1 (pos 5 ∷ pos 5 ∷ []) 9 refuses 28 at 0)
    ∷ (write_dc 4 1024 [] 9 refuses 28 at 0)
    ∷ (write_dc 4 1 (pos 32768 ∷ []) 9 refuses 28 at 0)
    ∷ (write_dc 4 1 (pos 5 ∷ []) 0 refuses 28 at 0)
    -- "directly after 20"
    ∷ (write_dc 4 1025 [] 9 refuses 20 at 0)
    ∷ (write_dc 5 1 (pos 5 ∷ []) 9 refuses 20 at 0)
    -- the levels below are written, to the ends of their ranges
    ∷ (write_dc 3 2 (pos 16383 ∷ negsuc 16383 ∷ []) 9 gives (0xBF ∷ []))
    ∷ (write_dc 3 1 [] 9 refuses 21 at 0)
    ∷ (write_dc 2 1 (pos 5 ∷ []) 9 gives (0xFF ∷ 0 ∷ []))
    -- the rules of 01: 20, 21, 11, 9 and the bits 1, 0, 1 of 32767, -32768 and 5
    ∷ (written_dc the_rules 4 3 (pos 32767 ∷ negsuc 32767 ∷ pos 5 ∷ []) 9 gives (0xBF ∷ []))
    ∷ (written_dc the_rules 4 0 [] 0 gives [])
    ∷ (written_dc the_rules 4 1025 [] 9 refuses 20 at 0)
    ∷ (written_dc the_rules 5 1 (pos 5 ∷ []) 9 refuses 20 at 0)
    ∷ (written_dc the_rules 4 1 (pos 5 ∷ pos 32768 ∷ []) 9 refuses 21 at 0)
    ∷ (written_dc the_rules 4 1 (pos 32768 ∷ []) 0 refuses 11 at 0)
    ∷ (written_dc the_rules 4 1 (pos 32767 ∷ []) 1 refuses 9 at 2)
    ∷ []

pub dc_written_lem : Holds written
unfolding every first_fail or_here in_level is_dc inside first_outside stuffed padded packed dc_half dc_bit written_dc
dc_written_lem = refl

-- the same for AC, where a table may be bad, or lack a code, besides
abbrev coded : List (Case ℕ)
coded =
    (write_ac 4 1 (five 0x11) (block (pos 1)) 9 refuses 28 at 0)
    ∷ (write_ac 4 0 (five 0x11) [] 0 refuses 28 at 0)
    ∷ (write_ac 4 1 (five 0x11) (zeros 62) 9 refuses 28 at 0)
    ∷ (write_ac 4 1024 (five 0x11) [] 9 refuses 28 at 0)
    ∷ (write_ac 4 1 no_table (zeros 63) 9 refuses 28 at 0)
    ∷ (write_ac 4 1 (five 0x11) (at_five (pos 32768)) 9 refuses 28 at 0)
    ∷ (write_ac 4 1 only_f0 (block (pos 1)) 9 refuses 28 at 0)
    ∷ (write_ac 4 1 (five 0x11) (block (pos 1)) 0 refuses 28 at 0)
    ∷ (write_ac 4 1025 (five 0x11) [] 9 refuses 20 at 0)
    ∷ (write_ac 5 1 (five 0x11) (block (pos 1)) 9 refuses 20 at 0)
    ∷ (write_ac 3 1 (five 0x11) (block (pos 1)) 9 gives (0x31 ∷ []))
    ∷ (write_ac 3 1 (five 0x11) (zeros 62) 9 refuses 21 at 0)
    ∷ (write_ac 2 1 (five 0x11) (block (negsuc 0)) 9 gives (0x21 ∷ []))
    -- the rules of 01: a new value is 001, its sign and 000; the end 000 in front of the correction 1 of 32767
    ∷ (written_ac the_rules 4 1 (five 0x11) (block (pos 1)) 9 gives (0x31 ∷ []))
    ∷ (written_ac the_rules 4 1 (five 0x11) (at_five (pos 32767)) 9 gives (0x1F ∷ []))
    ∷ (written_ac the_rules 4 0 (five 0x11) [] 0 gives [])
    ∷ (written_ac the_rules 4 1025 (five 0x11) [] 9 refuses 20 at 0)
    ∷ (written_ac the_rules 5 1 (five 0x11) (block (pos 1)) 9 refuses 20 at 0)
    ∷ (written_ac the_rules 4 1 no_table (zeros 62) 9 refuses 21 at 0)
    ∷ (written_ac the_rules 4 1 no_table (at_five (pos 32768)) 9 refuses 10 at 0)
    ∷ (written_ac the_rules 4 1 only_f0 (at_five (pos 32768)) 9 refuses 11 at 5)
    ∷ (written_ac the_rules 4 1 only_f0 (block (pos 1)) 0 refuses 19 at 1)
    ∷ (written_ac the_rules 4 1 (five 0x11) (block (pos 1)) 0 refuses 9 at 1)
    ∷ []

pub ac_written_lem : Holds coded
unfolding every first_fail or_here in_level is_dc inside first_outside digits stuffed padded packed code_count kraft holds distinct good_table place_of code_at word cut ac_half kind_of one_more ahead quiet plan order emit write_block write_blocks tokens lacking spelled written_ac
ac_written_lem = refl

-- "Readers go on reading stored pictures that have it.": the bytes above over the halves of their values
abbrev stored : List (Case ℤ)
stored =
    (read_dc 4 3 (pos 16383 ∷ negsuc 16383 ∷ pos 2 ∷ []) (0xBF ∷ []) 3 gives (pos 32767 ∷ negsuc 32767 ∷ pos 5 ∷ []))
    ∷ (read_ac 4 1 (five 0x11) (zeros 63) (0x31 ∷ []) 63 gives block (pos 1))
    ∷ (read_ac 4 1 (five 0x11) (at_five (pos 16383)) (0x1F ∷ []) 63 gives at_five (pos 32767))
    ∷ (read_dc 4 0 [] [] 0 gives [])
    ∷ (read_ac 4 0 (five 0x11) [] [] 0 gives [])
    ∷ []

pub stored_read : Holds stored
unfolding every first_fail or_here in_level is_dc inside first_outside digits opened after_ff next_byte take_from take_bit only_padding code_count kraft holds distinct good_table code_from take_code onto closed new_dc dc_blocks read_dc take_number end_run meaning task_at position block_end ac_block cut ac_blocks read_ac
stored_read = refl
