-- B1 to B6, B8: coded data as a source of bits (T.81, F.2.2.5), and which byte a bit came from.
use Rattle.std.specs.Prelude.{Bool, true, false, cond, List, [], ◌∷◌, ℕ, zero, suc, ◌+◌, ◌/◌, ◌^◌, eqb}
use Rattle.laws.specs.Index.{every}
use Rattle.bit_rules.specs.Digits.{odd, digits}

-- B3, B8: the unread bits of the byte in hand, the bytes not yet read, how many were read, and "the offset of the byte" that the last bit "came from"
pub record Source : Type 0 where
  pub pending : List Bool
  pub coming : List ℕ
  pub seen : ℕ
  pub last : ℕ

abbrev pub source : List Bool → List ℕ → ℕ → ℕ → Source
source pending coming seen last = record { pending = pending; coming = coming; seen = seen; last = last }

-- B3: data of which nothing was read
abbrev pub start : List ℕ → Source
start bytes = source [] bytes 0 0

-- B8: why reading stops: a number of N4's table, and "the offset of the byte" that the last bit asked for "came from, or of the byte that was missing"
pub record Stop : Type 0 where
  pub number : ℕ
  pub offset : ℕ

-- what a reader answers: a value and what is left, or a stop
pub data Out (A : Type 0) : Type 0 where
  got : A → Source → Out A
  stopped : Stop → Out A

-- B8: a number, and the offset "of the last bit asked for"
abbrev pub stop : ℕ → ℕ → Stop
stop number offset = record { number = number; offset = offset }

-- B1, B8: "Bits are taken from the highest of each byte": the first bit of the byte at this offset, which has just been read
unfoldable pub opened : ℕ → ℕ → List ℕ → ℕ → Out Bool
opened offset byte coming seen = got (odd (byte / 2 ^ 7)) (source (digits 7 byte) coming seen offset)

-- B2, B4, B5, B8: "an FF data byte is followed by 00, which carries no bits .. The 00 is tested and counted with its FF. FF as last byte is 12.";
-- "an FF that ends the data counts the byte after it as missing, and 13 gives its FF". The FF is at offset `seen`.
unfoldable pub after_ff : List ℕ → ℕ → Out Bool
after_ff [] seen = stopped (stop 12 (seen + 1))
after_ff (zero ∷ coming) seen = opened seen 255 coming (seen + 2)
after_ff (suc v ∷ coming) seen = stopped (stop 13 seen)

-- B2, B4, B8: the first bit of the next byte, which is at offset `seen`, if there is one; else this is "the byte that was missing"
unfoldable pub next_byte : List ℕ → ℕ → Out Bool
next_byte [] seen = stopped (stop 12 seen)
next_byte (byte ∷ coming) seen = cond (eqb byte 255) (after_ff coming seen) (opened seen byte coming (seen + 1))

-- B1, B3, B8: "A byte is read only when a bit of it is needed."; a bit in hand is of the byte that the one before it came from
unfoldable pub take_from : List Bool → List ℕ → ℕ → ℕ → Out Bool
take_from [] coming seen last = next_byte coming seen
take_from (b ∷ pending) coming seen last = got b (source pending coming seen last)

-- B3: the next bit, and what is left
unfoldable pub take_bit : Source → Out Bool
take_bit s = take_from s.pending s.coming s.seen s.last

-- B6: "After the last block the unread bits of the byte must be ones and no byte may follow."
abbrev pub no_byte : List ℕ → Bool
no_byte [] = true
no_byte (byte ∷ bytes) = false

-- B6: "the unread bits of the byte must be ones", and no byte follows
unfoldable pub only_padding : Source → Bool
only_padding s = cond (every s.pending) (no_byte s.coming) false
