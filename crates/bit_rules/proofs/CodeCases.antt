-- Code tables (K1 to K6), on each side of each edge, worked out by hand and computed over the definitions. Assumes nothing.
use mathlib.Core.Path.{◌≡◌, refl}
use mathlib.Core.List.{List, [], ◌∷◌, ◌++◌, map}
use mathlib.Core.Bool.{Bool, true, false}
use Prim.Native.Nat.{ℕ}
use lib.ListN.{replicate}
use Rattle.laws.specs.Index.{every, tab}
use Rattle.laws.specs.First.{first_fail, or_here}
use Rattle.std.specs.Prelude.{Some, None}
use Rattle.bit_rules.specs.Digits.{digits}
use Rattle.bit_rules.specs.Source.{Source, Stop, source, start, Out, got, stopped, stop, opened, after_ff, next_byte, take_from, take_bit}
use Rattle.bit_rules.specs.Table.{Table, table, code_count, kraft, holds, distinct, good_table}
use Rattle.bit_rules.specs.Read.{code_from, take_code}
use Rattle.bit_rules.specs.Write.{place_of, code_at, word}

-- 0, 1, .. n - 1
abbrev pub first : ℕ → List ℕ
first n = tab n (λ i. i)

-- "Table T: lengths 2, values 00, 01, F0 (codes 00, 01, 10)."
abbrev pub T : Table
T = table (0 ∷ 3 ∷ replicate 14 0) (0x00 ∷ 0x01 ∷ 0xf0 ∷ [])

-- codes 0, 10, 110, .. and at last fifteen ones and a 0
abbrev pub staircase : Table
staircase = table (replicate 16 1) (first 16)

-- codes 00, 01; 100, 101, 110
abbrev two_lengths : Table
two_lengths = table (0 ∷ 2 ∷ 3 ∷ replicate 13 0) (11 ∷ 12 ∷ 13 ∷ 14 ∷ 15 ∷ [])

-- codes 0; 100, 101: a length is passed over
abbrev pub passed_over : Table
passed_over = table (1 ∷ 0 ∷ 2 ∷ replicate 13 0) (11 ∷ 12 ∷ 13 ∷ [])

-- ---- which tables are tables

-- "the sum over lengths l of count times 2^(16-l)": 3 of 2 bits; one of each length; one of 1 bit; one of 16
pub sums : map kraft (T.counts ∷ replicate 16 1 ∷ (1 ∷ replicate 15 0) ∷ (replicate 15 0 ++ (1 ∷ [])) ∷ []) ≡ (49152 ∷ 65535 ∷ 32768 ∷ 1 ∷ [])
unfolding kraft
sums = refl

-- the whiteboard's; one value; 256 of them; a sum of 65,535; values in any order
pub good_tables : map good_table (
    T
    ∷ table (1 ∷ replicate 15 0) (5 ∷ [])
    ∷ table (replicate 14 0 ++ (1 ∷ 255 ∷ [])) (first 256)
    ∷ staircase
    ∷ table (0 ∷ 3 ∷ replicate 14 0) (255 ∷ 0 ∷ 7 ∷ [])
    ∷ [])
    ≡ replicate 5 true
unfolding every tab code_count kraft holds distinct good_table
good_tables = refl

-- 15 counts, 17 counts; no value; 257 values; a value too few, a value too many; a sum of 65,536; a value twice: neighbours, and first and last
pub bad_tables : map good_table (
    table (0 ∷ 3 ∷ replicate 13 0) (0 ∷ 1 ∷ 2 ∷ [])
    ∷ table (0 ∷ 3 ∷ replicate 15 0) (0 ∷ 1 ∷ 2 ∷ [])
    ∷ table (replicate 16 0) []
    ∷ table (replicate 14 0 ++ (2 ∷ 255 ∷ [])) (first 257)
    ∷ table (0 ∷ 3 ∷ replicate 14 0) (0 ∷ 1 ∷ [])
    ∷ table (0 ∷ 3 ∷ replicate 14 0) (0 ∷ 1 ∷ 2 ∷ 3 ∷ [])
    ∷ table (replicate 15 1 ++ (2 ∷ [])) (first 17)
    ∷ table (0 ∷ 3 ∷ replicate 14 0) (0 ∷ 0 ∷ 2 ∷ [])
    ∷ table (0 ∷ 3 ∷ replicate 14 0) (0 ∷ 1 ∷ 0 ∷ [])
    ∷ [])
    ≡ replicate 9 false
unfolding every tab code_count kraft holds distinct good_table
bad_tables = refl

-- ---- codes read

abbrev pub ones : ℕ → List Bool
ones n = replicate n true

abbrev pub bits : List Bool → Source
bits pending = source pending [] 9 8

-- "codes assigned by T.81 Annex C": 00, 01, 10 of T; 10 and 110 of the staircase; 01, 100, 101, 110 of two lengths; 0, 100, 101 where a length is passed over; and no more bits are taken
abbrev readings : List (Table × Source × Out ℕ)
readings =
    (T, bits (false ∷ false ∷ true ∷ []), got 0x00 (bits (true ∷ [])))
    ∷ (T, bits (false ∷ true ∷ []), got 0x01 (bits []))
    ∷ (T, bits (true ∷ false ∷ true ∷ []), got 0xf0 (bits (true ∷ [])))
    ∷ (staircase, bits (true ∷ false ∷ []), got 1 (bits []))
    ∷ (staircase, bits (true ∷ true ∷ false ∷ []), got 2 (bits []))
    ∷ (two_lengths, bits (false ∷ true ∷ []), got 12 (bits []))
    ∷ (two_lengths, bits (true ∷ false ∷ false ∷ []), got 13 (bits []))
    ∷ (two_lengths, bits (true ∷ false ∷ true ∷ []), got 14 (bits []))
    ∷ (two_lengths, bits (true ∷ true ∷ false ∷ []), got 15 (bits []))
    ∷ (passed_over, bits (false ∷ []), got 11 (bits []))
    ∷ (passed_over, bits (true ∷ false ∷ false ∷ []), got 12 (bits []))
    ∷ (passed_over, bits (true ∷ false ∷ true ∷ []), got 13 (bits []))
    ∷ (staircase, start (0xff ∷ 0x00 ∷ 0xfe ∷ 0x43 ∷ []), got 15 (source [] (0x43 ∷ []) 3 2))
    ∷ []

pub codes_read : map (λ (r : Table × Source × Out ℕ). take_code r.0 r.1) readings ≡ map (λ (r : Table × Source × Out ℕ). r.2) readings
unfolding tab digits opened after_ff next_byte take_from take_bit code_from take_code
codes_read = refl

-- 14: "16 bits and no code"; fifteen, or an end or an FF 01 before the sixteenth, give 12 or 13, even where no code can match any more
-- "that offset of the last bit asked for": of the byte of the sixteenth bit, which is the FF and not its 00; where the bits end, the byte behind them
abbrev stops : List (Source × Stop)
stops =
    (bits (ones 16), stop 14 8)
    ∷ (bits (ones 17), stop 14 8)
    ∷ (start (0xff ∷ 0x00 ∷ 0xff ∷ 0x00 ∷ []), stop 14 2)
    ∷ (start (0xff ∷ 0x00 ∷ 0xfe ∷ 0x43 ∷ []), stop 14 2)
    ∷ (start (0xc0 ∷ 0x43 ∷ 0x43 ∷ []), stop 14 1)
    ∷ (bits (ones 15), stop 12 9)
    ∷ (start (0xff ∷ 0x00 ∷ []), stop 12 2)
    ∷ (start (0xff ∷ 0x00 ∷ 0xff ∷ 0x01 ∷ []), stop 13 2)
    ∷ (start [], stop 12 0)
    ∷ []

pub codes_not_read : map (λ (r : Source × Stop). take_code T r.0) stops ≡ map (λ (r : Source × Stop). stopped r.1) stops
unfolding digits opened after_ff next_byte take_from take_bit code_from take_code
codes_not_read = refl

-- ---- codes written

-- of T, and none for a value that it lacks; the first, the third and the longest of the staircase; 12, 13, 15 of two lengths; 13 where a length is passed over
abbrev spelt : List (Table × ℕ × List Bool)
spelt =
    (T, 0x00, false ∷ false ∷ [])
    ∷ (T, 0x01, false ∷ true ∷ [])
    ∷ (T, 0xf0, true ∷ false ∷ [])
    ∷ (T, 0x02, [])
    ∷ (staircase, 0, false ∷ [])
    ∷ (staircase, 2, true ∷ true ∷ false ∷ [])
    ∷ (staircase, 15, ones 15 ++ (false ∷ []))
    ∷ (two_lengths, 12, false ∷ true ∷ [])
    ∷ (two_lengths, 13, true ∷ false ∷ false ∷ [])
    ∷ (two_lengths, 15, true ∷ true ∷ false ∷ [])
    ∷ (passed_over, 13, true ∷ false ∷ true ∷ [])
    ∷ []

pub words : map (λ (w : Table × ℕ × List Bool). word w.0 w.1) spelt ≡ map (λ (w : Table × ℕ × List Bool). w.2) spelt
unfolding tab first_fail or_here digits place_of code_at word
words = refl

-- where a value stands: first, last, nowhere
pub places : map (λ (v : ℕ). place_of v T.values) (0x00 ∷ 0xf0 ∷ 0x02 ∷ []) ≡ (Some 0 ∷ Some 2 ∷ None ∷ [])
unfolding first_fail or_here place_of
places = refl
