-- Bits and bytes (B1 to B8), on each side of each edge, worked out by hand and computed over the definitions. Assumes nothing.
use mathlib.Core.Path.{◌≡◌, refl}
use mathlib.Core.List.{List, [], ◌∷◌, ◌++◌, map}
use mathlib.Core.Bool.{Bool, true, false}
use Prim.Native.Nat.{ℕ, zero, suc}
use lib.ListN.{replicate}
use Rattle.laws.specs.Index.{every}
use Rattle.bit_rules.specs.Digits.{digits}
use Rattle.bit_rules.specs.Source.{Source, source, start, Out, got, stopped, stop, opened, after_ff, next_byte, take_from, take_bit, only_padding}
use Rattle.bit_rules.specs.Reader.{Reader, ◌>>=◌, done}
use Rattle.bit_rules.specs.Number.{take_number}
use Rattle.bit_rules.specs.Pack.{stuffed, padded, packed, bytes_of}

abbrev pub ones : ℕ → List Bool
ones n = replicate n true

abbrev pub zeros : ℕ → List Bool
zeros n = replicate n false

-- ---- bits taken

abbrev taking : ℕ → Reader (List Bool)
taking zero = done []
taking (suc n) = do
  b ← take_bit
  bits ← taking n
  done (b ∷ bits)

-- so many bits from a source, and what comes of it
pub record Taking : Type 0 where
  pub count : ℕ
  pub from : Source
  pub answer : Out (List Bool)

abbrev takes : ℕ → Source → Out (List Bool) → Taking
takes count from answer = record { count = count; from = from; answer = answer }

-- "Bits are taken from the highest of each byte" (43 is 0100 0011)
-- "an FF data byte is followed by 00, which carries no bits"; any other byte is not, and a further 00 is data
-- "A byte is read only when a bit of it is needed": what follows the byte in hand is not looked at
-- "The 00 is tested and counted with its FF"; 13: "FF without 00 after it"
-- "FF as last byte is 12", and 12: "data end early"
-- "the offset of the byte it came from, or of the byte that was missing .. an FF that ends the data counts the byte after it as missing, and 13 gives its FF":
-- the last number of a source, and of a stop; a bit of FF 00 has the FF, and the byte behind the 00 has its own offset
abbrev takings : List Taking
takings =
    takes 8 (start (0x43 ∷ [])) (got (false ∷ true ∷ false ∷ false ∷ false ∷ false ∷ true ∷ true ∷ []) (source [] [] 1 0))
    ∷ takes 3 (start (0x43 ∷ 0xff ∷ [])) (got (false ∷ true ∷ false ∷ []) (source (false ∷ false ∷ false ∷ true ∷ true ∷ []) (0xff ∷ []) 1 0))
    ∷ takes 9 (start (0x01 ∷ 0x80 ∷ [])) (got (zeros 7 ++ (true ∷ true ∷ [])) (source (zeros 7) [] 2 1))
    ∷ takes 9 (start (0xff ∷ 0x00 ∷ 0x80 ∷ [])) (got (ones 9) (source (zeros 7) [] 3 2))
    ∷ takes 9 (start (0xff ∷ 0x00 ∷ 0x00 ∷ [])) (got (ones 8 ++ (false ∷ [])) (source (zeros 7) [] 3 2))
    ∷ takes 9 (start (0xfe ∷ 0x01 ∷ [])) (got (ones 7 ++ (false ∷ false ∷ [])) (source (zeros 6 ++ (true ∷ [])) [] 2 1))
    ∷ takes 9 (start (0x00 ∷ 0x00 ∷ [])) (got (zeros 9) (source (zeros 7) [] 2 1))
    ∷ takes 1 (start (0xff ∷ 0x00 ∷ 0x43 ∷ [])) (got (true ∷ []) (source (ones 7) (0x43 ∷ []) 2 0))
    ∷ takes 9 (start (0x43 ∷ 0xff ∷ 0x00 ∷ 0x80 ∷ [])) (got (false ∷ true ∷ zeros 4 ++ ones 3) (source (ones 7) (0x80 ∷ []) 3 1))
    ∷ takes 17 (start (0x43 ∷ 0xff ∷ 0x00 ∷ 0x80 ∷ [])) (got (false ∷ true ∷ zeros 4 ++ ones 11) (source (zeros 7) [] 4 3))
    ∷ takes 0 (start (0xff ∷ 0x01 ∷ [])) (got [] (source [] (0xff ∷ 0x01 ∷ []) 0 0))
    ∷ takes 8 (start (0x43 ∷ 0xff ∷ 0x01 ∷ [])) (got (false ∷ true ∷ zeros 4 ++ ones 2) (source [] (0xff ∷ 0x01 ∷ []) 1 0))
    ∷ takes 9 (start (0x43 ∷ 0xff ∷ 0x01 ∷ [])) (stopped (stop 13 1))
    ∷ takes 1 (start (0xff ∷ 0x01 ∷ [])) (stopped (stop 13 0))
    ∷ takes 1 (start (0xff ∷ 0xff ∷ [])) (stopped (stop 13 0))
    ∷ takes 9 (start (0xff ∷ 0x00 ∷ 0xff ∷ 0x01 ∷ 0x43 ∷ [])) (stopped (stop 13 2))
    ∷ takes 8 (start (0x43 ∷ 0xff ∷ [])) (got (false ∷ true ∷ zeros 4 ++ ones 2) (source [] (0xff ∷ []) 1 0))
    ∷ takes 9 (start (0x43 ∷ 0xff ∷ [])) (stopped (stop 12 2))
    ∷ takes 9 (start (0x43 ∷ [])) (stopped (stop 12 1))
    ∷ takes 1 (start (0xff ∷ [])) (stopped (stop 12 1))
    ∷ takes 0 (start []) (got [] (source [] [] 0 0))
    ∷ takes 1 (start []) (stopped (stop 12 0))
    ∷ takes 9 (start (0xff ∷ 0x00 ∷ [])) (stopped (stop 12 2))
    ∷ takes 9 (start (0xff ∷ 0x00 ∷ 0xff ∷ [])) (stopped (stop 12 3))
    ∷ takes 2 (source (true ∷ false ∷ []) [] 5 3) (got (true ∷ false ∷ []) (source [] [] 5 3))
    ∷ takes 3 (source (true ∷ false ∷ []) (0x80 ∷ []) 5 3) (got (true ∷ false ∷ true ∷ []) (source (zeros 7) [] 6 5))
    ∷ []

pub bits_taken : map (λ (t : Taking). taking t.count t.from) takings ≡ map (λ (t : Taking). t.answer) takings
unfolding digits opened after_ff next_byte take_from take_bit
bits_taken = refl

-- ---- numbers taken

-- so many bits behind a number, the highest first: none, 110 alone and behind 1, eight of the byte 43, nine of 01 80; 12 where the data end early
pub numbers-taken :
    (take_number 0 5 (start (0x43 ∷ []))
    ∷ take_number 3 0 (source (true ∷ true ∷ false ∷ []) [] 5 4)
    ∷ take_number 3 1 (source (true ∷ true ∷ false ∷ []) [] 5 4)
    ∷ take_number 8 0 (start (0x43 ∷ []))
    ∷ take_number 9 0 (start (0x01 ∷ 0x80 ∷ []))
    ∷ take_number 9 0 (start (0x43 ∷ []))
    ∷ [])
    ≡ (got 5 (start (0x43 ∷ [])) ∷ got 6 (source [] [] 5 4) ∷ got 14 (source [] [] 5 4) ∷ got 67 (source [] [] 1 0) ∷ got 3 (source (zeros 7) [] 2 1) ∷ stopped (stop 12 1) ∷ [])
unfolding digits opened after_ff next_byte take_from take_bit take_number
numbers-taken = refl

-- ---- padding

-- "After the last block the unread bits of the byte must be ones and no byte may follow."
pub paddings : map only_padding (source [] [] 3 2 ∷ source (ones 1) [] 3 2 ∷ source (ones 7) [] 3 2 ∷ []) ≡ replicate 3 true
unfolding every only_padding
paddings = refl

-- a bit that is 0: the only one, the first, the last; a byte left, of zeros or of ones
pub no_paddings : map only_padding (
    source (zeros 1) [] 3 2
    ∷ source (false ∷ ones 6) [] 3 2
    ∷ source (ones 6 ++ zeros 1) [] 3 2
    ∷ source [] (0x00 ∷ []) 3 2
    ∷ source [] (0xff ∷ []) 3 2
    ∷ source (ones 2) (0xff ∷ []) 3 2
    ∷ [])
    ≡ replicate 6 false
unfolding every only_padding
no_paddings = refl

-- ---- bits put

-- the low bits of a number, the highest first: none; 6 in three bits and in four; what lies above them is left out; sixteen bits
pub low_bits : (digits 0 7 ∷ digits 3 6 ∷ digits 4 6 ∷ digits 2 6 ∷ digits 1 1 ∷ digits 16 0x8001 ∷ [])
    ≡ ([] ∷ (true ∷ true ∷ false ∷ []) ∷ (false ∷ true ∷ true ∷ false ∷ []) ∷ (true ∷ false ∷ []) ∷ (true ∷ []) ∷ (true ∷ zeros 14 ++ ones 1) ∷ [])
unfolding digits
low_bits = refl

-- "Its padding is ones, with 00 after FF." No bits; a 0, a 1 (FF by padding gets its 00); seven, eight, nine ones; FE has no 00; 43; 43 and a 1; 00 behind FF
abbrev puttings : List (List Bool × List ℕ)
puttings =
    ([], [])
    ∷ (zeros 1, 0x7f ∷ [])
    ∷ (ones 1, 0xff ∷ 0x00 ∷ [])
    ∷ (ones 7, 0xff ∷ 0x00 ∷ [])
    ∷ (ones 8, 0xff ∷ 0x00 ∷ [])
    ∷ (ones 9, 0xff ∷ 0x00 ∷ 0xff ∷ 0x00 ∷ [])
    ∷ (ones 7 ++ zeros 1, 0xfe ∷ [])
    ∷ (false ∷ true ∷ zeros 4 ++ ones 2, 0x43 ∷ [])
    ∷ (false ∷ true ∷ zeros 4 ++ ones 3, 0x43 ∷ 0xff ∷ 0x00 ∷ [])
    ∷ (ones 8 ++ zeros 8, 0xff ∷ 0x00 ∷ 0x00 ∷ [])
    ∷ []

pub bytes_put : map (λ (p : List Bool × List ℕ). bytes_of p.0) puttings ≡ map (λ (p : List Bool × List ℕ). p.1) puttings
unfolding stuffed padded packed
bytes_put = refl
