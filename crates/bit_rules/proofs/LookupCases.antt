-- Codes looked up by the numbers of their lengths (K7, K8): tables of every shape at their edges, worked out by hand and computed over the definitions. Assumes nothing.
use mathlib.Core.Path.{◌≡◌, refl}
use mathlib.Core.List.{List, [], ◌∷◌, ◌++◌, map}
use mathlib.Core.Bool.{true, false}
use Rattle.std.specs.Prelude.{Option, Some, None}
use Prim.Native.Nat.{ℕ, suc}
use native.Mathlib.Omega.{arith}
use lib.ListN.{replicate}
use Rattle.laws.specs.Index.{tab}
use Rattle.bit_rules.specs.Digits.{digits}
use Rattle.bit_rules.specs.Source.{Source, source, start, Out, got, stopped, stop, opened, after_ff, next_byte, take_from, take_bit}
use Rattle.bit_rules.specs.Table.{Table, table}
use Rattle.bit_rules.specs.Read.{code_from, take_code}
use Rattle.bit_rules.specs.Write.{code_at}
use Rattle.bit_rules.specs.Lookup.{Length, largest_of, limit_of, lengths_from, lengths_of, above, decode_from, decode}
use Rattle.bit_rules.proofs.CodeCases.{first, T, staircase, passed_over, ones, bits}
use Rattle.bit_rules.proofs.Lookups.{numbers_are_of_codes}

-- one code of length 1: 0
abbrev one_short : Table
one_short = table (1 ∷ replicate 15 0) (5 ∷ [])

-- one code of length 16: sixteen zeros
abbrev one_long : Table
one_long = table (replicate 15 0 ++ (1 ∷ [])) (5 ∷ [])

-- 255 codes of length 8, 00000000 to 11111110, and one of 9, 111111110
abbrev nearly_full : Table
nearly_full = table (replicate 7 0 ++ (255 ∷ 1 ∷ replicate 7 0)) (first 256)

-- lengths left out: 00; 01000, 01001, 01010; 01011 and eleven zeros, 01011 and ten zeros and a one
abbrev left_out : Table
left_out = table (0 ∷ 1 ∷ 0 ∷ 0 ∷ 3 ∷ replicate 10 0 ++ (2 ∷ [])) (21 ∷ 22 ∷ 23 ∷ 24 ∷ 25 ∷ 26 ∷ [])

-- ---- the numbers

abbrev held_of : ℕ → Length → Option ℕ → List (ℕ × ℕ × ℕ × ℕ) → List (ℕ × ℕ × ℕ × ℕ)
held_of l here None rest = rest
held_of l here (Some m) rest = (l, here.smallest, m, here.position) ∷ rest

-- length, smallest code, largest code and the first value's position, for the lengths that have codes
abbrev held : ℕ → List Length → List (ℕ × ℕ × ℕ × ℕ)
held l [] = []
held l (here ∷ longer) = held_of l here here.largest (held (suc l) longer)

abbrev numbers : List (Table × List (ℕ × ℕ × ℕ × ℕ))
numbers =
    (one_short, (1, 0, 0, 0) ∷ [])
    ∷ (one_long, (16, 0, 0, 0) ∷ [])
    ∷ (nearly_full, (8, 0, 254, 0) ∷ (9, 510, 510, 255) ∷ [])
    ∷ (left_out, (2, 0, 0, 0) ∷ (5, 8, 10, 1) ∷ (16, 22528, 22529, 4) ∷ [])
    ∷ (T, (2, 0, 2, 0) ∷ [])
    ∷ (passed_over, (1, 0, 0, 0) ∷ (3, 4, 5, 1) ∷ [])
    ∷ (
      staircase,
      (1, 0, 0, 0)
          ∷ (2, 2, 2, 1)
          ∷ (3, 6, 6, 2)
          ∷ (4, 14, 14, 3)
          ∷ (5, 30, 30, 4)
          ∷ (6, 62, 62, 5)
          ∷ (7, 126, 126, 6)
          ∷ (8, 254, 254, 7)
          ∷ (9, 510, 510, 8)
          ∷ (10, 1022, 1022, 9)
          ∷ (11, 2046, 2046, 10)
          ∷ (12, 4094, 4094, 11)
          ∷ (13, 8190, 8190, 12)
          ∷ (14, 16382, 16382, 13)
          ∷ (15, 32766, 32766, 14)
          ∷ (16, 65534, 65534, 15)
          ∷ [],
    )
    ∷ []

pub numbers_held : map (λ (n : Table × List (ℕ × ℕ × ℕ × ℕ)). held 1 (lengths_of n.0)) numbers ≡ map (λ (n : Table × List (ℕ × ℕ × ℕ × ℕ)). n.1) numbers
unfolding tab largest_of lengths_from
numbers_held = refl

-- no code is no number, and the code 0 is 1
pub limits : map limit_of (None ∷ Some 0 ∷ Some 65534 ∷ []) ≡ (0 ∷ 1 ∷ 65535 ∷ [])
unfolding limit_of
limits = refl

-- ---- codes looked up

-- the first code of a length, its last, and what is behind it; lengths without codes, of which 0 is no code; 12, 13 and 14 with their offsets
abbrev lookups : List (Table × Source × Out ℕ)
lookups =
    (one_short, bits (false ∷ true ∷ []), got 5 (bits (true ∷ [])))
    ∷ (one_short, bits (ones 16), stopped (stop 14 8))
    ∷ (one_short, start (0x80 ∷ 0x00 ∷ 0x00 ∷ []), stopped (stop 14 1))
    ∷ (one_short, start [], stopped (stop 12 0))
    ∷ (one_long, start (0x00 ∷ 0x00 ∷ []), got 5 (source [] [] 2 1))
    ∷ (one_long, start (0x00 ∷ 0x01 ∷ []), stopped (stop 14 1))
    ∷ (one_long, start (0x00 ∷ 0xff ∷ 0x00 ∷ []), stopped (stop 14 1))
    ∷ (one_long, start (0x00 ∷ []), stopped (stop 12 1))
    ∷ (one_long, start (0x00 ∷ 0xff ∷ 0x01 ∷ []), stopped (stop 13 1))
    ∷ (nearly_full, start (0x00 ∷ []), got 0 (source [] [] 1 0))
    ∷ (nearly_full, start (0xfe ∷ []), got 254 (source [] [] 1 0))
    ∷ (nearly_full, start (0xff ∷ 0x00 ∷ 0x7f ∷ []), got 255 (source (ones 7) [] 3 2))
    ∷ (nearly_full, start (0xff ∷ 0x00 ∷ 0x80 ∷ []), stopped (stop 14 2))
    ∷ (nearly_full, start (0xff ∷ 0x00 ∷ []), stopped (stop 12 2))
    ∷ (nearly_full, start (0xff ∷ []), stopped (stop 12 1))
    ∷ (nearly_full, start (0xff ∷ 0xd9 ∷ []), stopped (stop 13 0))
    ∷ (staircase, bits (false ∷ []), got 0 (bits []))
    ∷ (staircase, start (0xfe ∷ 0x43 ∷ []), got 7 (source [] (0x43 ∷ []) 1 0))
    ∷ (staircase, start (0xff ∷ 0x00 ∷ 0xfe ∷ 0x43 ∷ []), got 15 (source [] (0x43 ∷ []) 3 2))
    ∷ (staircase, start (0xff ∷ 0x00 ∷ 0xff ∷ 0x00 ∷ []), stopped (stop 14 2))
    ∷ (left_out, bits (false ∷ false ∷ []), got 21 (bits []))
    ∷ (left_out, start (0x47 ∷ []), got 22 (source (ones 3) [] 1 0))
    ∷ (left_out, start (0x57 ∷ []), got 24 (source (ones 3) [] 1 0))
    ∷ (left_out, start (0x58 ∷ 0x00 ∷ []), got 25 (source [] [] 2 1))
    ∷ (left_out, start (0x58 ∷ 0x01 ∷ []), got 26 (source [] [] 2 1))
    ∷ (left_out, start (0x58 ∷ 0x02 ∷ []), stopped (stop 14 1))
    ∷ (left_out, start (0x80 ∷ 0x00 ∷ []), stopped (stop 14 1))
    ∷ []

pub looked_up : map (λ (r : Table × Source × Out ℕ). decode r.0 r.1) lookups ≡ map (λ (r : Table × Source × Out ℕ). r.2) lookups
unfolding tab digits opened after_ff next_byte take_from take_bit largest_of lengths_from above decode_from decode
looked_up = refl

-- the definition by Annex C, on the same
pub read_by_codes : map (λ (r : Table × Source × Out ℕ). take_code r.0 r.1) lookups ≡ map (λ (r : Table × Source × Out ℕ). r.2) lookups
unfolding tab digits opened after_ff next_byte take_from take_bit code_from take_code
read_by_codes = refl

-- ---- the numbers, used: the third value of length 5 has the code 2 above the smallest, and lengths 3 and 4 have none

pub third_of_five : code_at left_out.counts 0 1 3 ≡ digits 5 10
unfolding lengths_from largest_of
third_of_five = (numbers_are_of_codes.each left_out 4 _ _ refl).codes 2 (omega arith)
