-- Fourth planes of libjpeg and of the ISO reference software, as tools/vectors/stored.py prints them: the rules of 01 give their bytes, the readers read them, our writer refuses them (E11). Assumes nothing.
use mathlib.Core.Path.{◌≡◌, refl}
use mathlib.Core.List.{List, [], ◌∷◌, ◌++◌, map}
use Prim.Native.Nat.{ℕ, ◌*◌}
use lib.IntN.{ℤ, pos, negsuc}
use lib.ListN.{length, replicate}
use Rattle.laws.specs.Index.{every}
use Rattle.laws.specs.First.{first_fail, or_here}
use Rattle.answers.specs.Verdict.{given, refused, refusal}
use Rattle.levels.specs.Level.{in_level, is_dc, inside, first_outside}
use Rattle.bit_rules.specs.Digits.{digits}
use Rattle.bit_rules.specs.Source.{opened, after_ff, next_byte, take_from, take_bit, only_padding}
use Rattle.bit_rules.specs.Pack.{stuffed, padded, packed}
use Rattle.bit_rules.specs.Table.{Table, table, code_count, kraft, holds, distinct, good_table}
use Rattle.bit_rules.specs.Read.{code_from, take_code}
use Rattle.bit_rules.specs.Number.{take_number}
use Rattle.bit_rules.specs.Write.{place_of, code_at, word}
use Rattle.plane_rules.specs.Plane.{the_rules, onto, closed}
use Rattle.plane_rules.specs.Dc.{new_dc, dc_blocks, read_dc, dc_half, dc_bit, written_dc, write_dc}
use Rattle.plane_rules.specs.AcRead.{end_run, meaning, task_at, position, block_end, ac_block, cut, ac_blocks, read_ac}
use Rattle.plane_rules.specs.AcWrite.{ac_half, kind_of, one_more, ahead, quiet, plan, order, emit, write_block, write_blocks, tokens, lacking, spelled, written_ac, write_ac}
use Rattle.plane_cases.proofs.WritingCases.{zeros}

-- ---- DC

-- the blocks, the values of level 4, the bytes
pub record StoredDc : Type 0 where
  pub blocks : ℕ
  pub values : List ℤ
  pub bytes : List ℕ

abbrev pub stored_dc : ℕ → List ℤ → List ℕ → StoredDc
stored_dc blocks values bytes = record { blocks = blocks; values = values; bytes = bytes }

abbrev pub dc_planes : List StoredDc
dc_planes =
    -- libjpeg, 8 x 8 pixels, quality 90: a ramp
    stored_dc 1 (negsuc 88 ∷ []) (0xff ∷ 0x00 ∷ [])
    -- libjpeg, 24 x 8 pixels, quality 60: noise, a flat block, noise
    ∷ stored_dc 3 (negsuc 4 ∷ pos 0 ∷ negsuc 4 ∷ []) (0xbf ∷ [])
    -- libjpeg, 8 x 8 pixels, quality 75: noise
    ∷ stored_dc 1 (negsuc 11 ∷ []) (0x7f ∷ [])
    -- the reference software, 16 x 8 pixels, quality 90: a slow ramp
    ∷ stored_dc 2 (negsuc 2804 ∷ pos 341 ∷ []) (0xff ∷ 0x00 ∷ [])
    -- the reference software, 8 x 8 pixels, quality 90: a ramp
    ∷ stored_dc 1 (negsuc 1207 ∷ []) (0x7f ∷ [])
    -- the reference software, 24 x 8 pixels, quality 90: a flat block, noise, a flat block
    ∷ stored_dc 3 (pos 117 ∷ negsuc 1305 ∷ pos 117 ∷ []) (0xbf ∷ [])
    ∷ []

pub dc_by_the_rules : map (λ (s : StoredDc). written_dc the_rules 4 s.blocks s.values (length s.bytes)) dc_planes ≡ map (λ (s : StoredDc). given s.bytes) dc_planes
unfolding every first_fail or_here in_level is_dc inside first_outside stuffed padded packed dc_half dc_bit written_dc
dc_by_the_rules = refl

pub dc_read_lem : map (λ (s : StoredDc). read_dc 4 s.blocks (map dc_half s.values) s.bytes s.blocks) dc_planes ≡ map (λ (s : StoredDc). given s.values) dc_planes
unfolding every first_fail or_here in_level is_dc inside first_outside digits opened after_ff next_byte take_from take_bit only_padding onto closed new_dc dc_blocks read_dc dc_half
dc_read_lem = refl

pub dc_not_written : map (λ (s : StoredDc). write_dc 4 s.blocks s.values (length s.bytes)) dc_planes ≡ map (λ (s : StoredDc). refused (refusal 28 0)) dc_planes
unfolding every written_dc
dc_not_written = refl

-- ---- AC

-- the blocks, the code table, the values of level 4, the bytes
pub record StoredAc : Type 0 where
  pub blocks : ℕ
  pub codes : Table
  pub values : List ℤ
  pub bytes : List ℕ

abbrev pub stored_ac : ℕ → Table → List ℤ → List ℕ → StoredAc
stored_ac blocks codes values bytes = record { blocks = blocks; codes = codes; values = values; bytes = bytes }

abbrev pub ac_planes : List StoredAc
ac_planes =
    -- libjpeg, 8 x 8 pixels, quality 90: a ramp
    stored_ac 1 (table (0 ∷ 3 ∷ replicate 14 0) (0x00 ∷ 0x41 ∷ 0xa1 ∷ [])) (negsuc 181 ∷ negsuc 63 ∷ pos 0 ∷ pos 0 ∷ pos 0 ∷ negsuc 12 ∷ pos 0 ∷ pos 0 ∷ negsuc 3 ∷ (zeros 5 ++ (negsuc 0 ∷ (zeros 4 ++ (negsuc 0 ∷ zeros 43))))) (0x84 ∷ 0x8f ∷ [])
    -- libjpeg, 24 x 8 pixels, quality 60: noise, a flat block, noise
    ∷ stored_ac 3 (table (1 ∷ 0 ∷ 2 ∷ 1 ∷ 5 ∷ replicate 11 0) (0x01 ∷ 0x11 ∷ 0x21 ∷ 0xf0 ∷ 0x10 ∷ 0x31 ∷ 0x71 ∷ 0x81 ∷ 0xa1 ∷ [])) (negsuc 0 ∷ pos 2 ∷ pos 0 ∷ pos 1 ∷ pos 0 ∷ negsuc 0 ∷ pos 1 ∷ negsuc 0 ∷ pos 1 ∷ pos 1 ∷ negsuc 0 ∷ pos 1 ∷ pos 0 ∷ pos 0 ∷ pos 0 ∷ pos 1 ∷ pos 0 ∷ pos 0 ∷ pos 1 ∷ (zeros 7 ++ (pos 1 ∷ (zeros 99 ++ (pos 1 ∷ negsuc 0 ∷ pos 2 ∷ pos 0 ∷ pos 3 ∷ pos 0 ∷ pos 2 ∷ pos 2 ∷ negsuc 0 ∷ (zeros 8 ++ (negsuc 0 ∷ pos 1 ∷ pos 1 ∷ (zeros 42 ++ (pos 1 ∷ []))))))))) (0x25 ∷ 0x08 ∷ 0xa3 ∷ 0xbd ∷ 0xf3 ∷ 0xa2 ∷ 0x52 ∷ 0x74 ∷ 0xb9 ∷ 0x9e ∷ 0xff ∷ 0x00 ∷ [])
    -- libjpeg, 8 x 8 pixels, quality 75: noise
    ∷ stored_ac 1 (table (1 ∷ 1 ∷ 1 ∷ 1 ∷ replicate 12 0) (0x01 ∷ 0x21 ∷ 0x11 ∷ 0x00 ∷ [])) (negsuc 8 ∷ negsuc 9 ∷ negsuc 9 ∷ negsuc 25 ∷ pos 24 ∷ negsuc 2 ∷ pos 12 ∷ pos 9 ∷ negsuc 2 ∷ pos 3 ∷ negsuc 6 ∷ pos 17 ∷ pos 0 ∷ pos 4 ∷ negsuc 2 ∷ pos 3 ∷ negsuc 5 ∷ negsuc 7 ∷ pos 1 ∷ pos 3 ∷ negsuc 2 ∷ negsuc 4 ∷ negsuc 2 ∷ pos 3 ∷ pos 5 ∷ negsuc 2 ∷ pos 0 ∷ pos 0 ∷ negsuc 4 ∷ pos 2 ∷ pos 3 ∷ pos 1 ∷ negsuc 1 ∷ pos 0 ∷ pos 0 ∷ negsuc 0 ∷ pos 1 ∷ negsuc 0 ∷ pos 0 ∷ pos 2 ∷ pos 2 ∷ negsuc 1 ∷ negsuc 3 ∷ pos 4 ∷ negsuc 1 ∷ pos 0 ∷ pos 1 ∷ negsuc 0 ∷ negsuc 0 ∷ negsuc 0 ∷ negsuc 0 ∷ negsuc 0 ∷ pos 2 ∷ pos 1 ∷ pos 0 ∷ pos 1 ∷ negsuc 0 ∷ pos 0 ∷ negsuc 2 ∷ pos 0 ∷ pos 1 ∷ pos 1 ∷ pos 0 ∷ []) (0xd8 ∷ 0x5f ∷ 0x65 ∷ 0xff ∷ 0x00 ∷ 0x61 ∷ 0x28 ∷ 0x00 ∷ 0x02 ∷ 0xd2 ∷ 0xde ∷ [])
    -- the reference software, 16 x 8 pixels, quality 90: a slow ramp
    ∷ stored_ac 2 (table (1 ∷ 0 ∷ 3 ∷ replicate 13 0) (0x00 ∷ 0x01 ∷ 0x51 ∷ 0xf0 ∷ [])) (negsuc 2134 ∷ pos 0 ∷ pos 0 ∷ pos 0 ∷ negsuc 345 ∷ negsuc 198 ∷ (zeros 7 ++ (negsuc 41 ∷ negsuc 25 ∷ (zeros 11 ++ (negsuc 7 ∷ negsuc 4 ∷ (zeros 35 ++ (negsuc 810 ∷ pos 0 ∷ pos 0 ∷ pos 0 ∷ negsuc 73 ∷ negsuc 60 ∷ (zeros 7 ++ (negsuc 6 ∷ negsuc 6 ∷ (zeros 11 ++ (negsuc 0 ∷ negsuc 0 ∷ zeros 35))))))))))) (0x51 ∷ 0xd7 ∷ 0xa8 ∷ 0x7f ∷ [])
    -- the reference software, 8 x 8 pixels, quality 90: a ramp
    ∷ stored_ac 1 (table (1 ∷ 1 ∷ 1 ∷ 1 ∷ replicate 12 0) (0x01 ∷ 0x11 ∷ 0x21 ∷ 0x00 ∷ [])) (negsuc 2330 ∷ negsuc 815 ∷ negsuc 28 ∷ negsuc 355 ∷ negsuc 455 ∷ negsuc 212 ∷ negsuc 57 ∷ negsuc 8 ∷ negsuc 49 ∷ pos 0 ∷ negsuc 12 ∷ pos 7 ∷ negsuc 21 ∷ negsuc 42 ∷ negsuc 22 ∷ negsuc 3 ∷ pos 6 ∷ pos 5 ∷ pos 6 ∷ negsuc 5 ∷ pos 1 ∷ pos 1 ∷ pos 5 ∷ pos 4 ∷ pos 4 ∷ negsuc 0 ∷ negsuc 5 ∷ negsuc 3 ∷ pos 0 ∷ pos 2 ∷ pos 3 ∷ pos 3 ∷ pos 2 ∷ pos 1 ∷ pos 0 ∷ pos 0 ∷ pos 1 ∷ pos 2 ∷ pos 2 ∷ pos 1 ∷ pos 1 ∷ pos 0 ∷ pos 1 ∷ pos 1 ∷ pos 1 ∷ pos 1 ∷ pos 1 ∷ pos 0 ∷ pos 0 ∷ pos 1 ∷ pos 1 ∷ pos 1 ∷ pos 1 ∷ pos 1 ∷ pos 1 ∷ pos 1 ∷ zeros 7) (0xb4 ∷ 0xad ∷ 0x91 ∷ 0x25 ∷ 0x1b ∷ 0x51 ∷ 0xaa ∷ 0xba ∷ 0xaa ∷ 0xbd ∷ [])
    -- the reference software, 24 x 8 pixels, quality 90: a flat block, noise, a flat block
    ∷ stored_ac 3 (table (0 ∷ 3 ∷ replicate 14 0) (0x00 ∷ 0x01 ∷ 0x10 ∷ [])) (zeros 63 ++ (pos 64 ∷ pos 843 ∷ pos 94 ∷ pos 247 ∷ pos 466 ∷ pos 158 ∷ negsuc 0 ∷ negsuc 382 ∷ pos 75 ∷ negsuc 292 ∷ negsuc 53 ∷ pos 99 ∷ negsuc 176 ∷ negsuc 161 ∷ pos 10 ∷ pos 220 ∷ pos 172 ∷ pos 133 ∷ pos 211 ∷ pos 116 ∷ pos 55 ∷ negsuc 74 ∷ negsuc 224 ∷ pos 69 ∷ negsuc 111 ∷ negsuc 23 ∷ pos 22 ∷ pos 49 ∷ negsuc 40 ∷ negsuc 28 ∷ pos 11 ∷ negsuc 15 ∷ pos 0 ∷ negsuc 55 ∷ pos 49 ∷ pos 10 ∷ negsuc 12 ∷ pos 4 ∷ negsuc 22 ∷ pos 27 ∷ pos 44 ∷ pos 23 ∷ negsuc 36 ∷ pos 80 ∷ negsuc 12 ∷ pos 47 ∷ negsuc 47 ∷ negsuc 47 ∷ pos 60 ∷ negsuc 29 ∷ negsuc 60 ∷ negsuc 4 ∷ pos 7 ∷ pos 15 ∷ negsuc 20 ∷ pos 27 ∷ pos 59 ∷ pos 19 ∷ pos 18 ∷ pos 49 ∷ negsuc 2 ∷ negsuc 5 ∷ negsuc 13 ∷ zeros 63)) (0x12 ∷ 0x93 ∷ 0xb0 ∷ 0xde ∷ 0x3c ∷ 0xad ∷ 0xb0 ∷ 0xff ∷ 0x00 ∷ 0x67 ∷ [])
    ∷ []

pub ac_by_the_rules : map (λ (s : StoredAc). written_ac the_rules 4 s.blocks s.codes s.values (length s.bytes)) ac_planes ≡ map (λ (s : StoredAc). given s.bytes) ac_planes
unfolding every first_fail or_here in_level is_dc inside first_outside digits stuffed padded packed code_count kraft holds distinct good_table place_of code_at word cut ac_half kind_of one_more ahead quiet plan order emit write_block write_blocks tokens lacking spelled written_ac
ac_by_the_rules = refl

pub ac_read_lem : map (λ (s : StoredAc). read_ac 4 s.blocks s.codes (map ac_half s.values) s.bytes (63 * s.blocks)) ac_planes ≡ map (λ (s : StoredAc). given s.values) ac_planes
unfolding every first_fail or_here in_level is_dc inside first_outside digits opened after_ff next_byte take_from take_bit only_padding code_count kraft holds distinct good_table code_from take_code onto closed take_number end_run meaning task_at position block_end ac_block cut ac_blocks read_ac ac_half
ac_read_lem = refl

pub ac_not_written : map (λ (s : StoredAc). write_ac 4 s.blocks s.codes s.values (length s.bytes)) ac_planes ≡ map (λ (s : StoredAc). refused (refusal 28 0)) ac_planes
unfolding every written_ac
ac_not_written = refl
