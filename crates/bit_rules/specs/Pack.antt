-- B7: bytes out of bits. "Its padding is ones, with 00 after FF."
use Rattle.std.specs.Prelude.{Bool, cond, List, [], ◌∷◌, ℕ, zero, suc, ◌+◌, ◌*◌, eqb}
use Rattle.bit_rules.specs.Digits.{bin}

-- B7: a byte before others, "with 00 after FF"
unfoldable pub stuffed : ℕ → List ℕ → List ℕ
stuffed byte rest = cond (eqb byte 255) (255 ∷ 0 ∷ rest) (byte ∷ rest)

-- B7: the bits of `held`, then room + 1 ones
unfoldable pub padded : ℕ → ℕ → ℕ
padded held zero = 2 * held + 1
padded held (suc room) = padded (2 * held + 1) room

-- B7: the bytes of these bits; the byte in hand has the bits of `held`, and room for room + 1 more
unfoldable pub packed : ℕ → ℕ → List Bool → List ℕ
packed held room [] = cond (eqb room 7) [] (stuffed (padded held room) [])
packed held zero (b ∷ bits) = stuffed (2 * held + bin b) (packed 0 7 bits)
packed held (suc room) (b ∷ bits) = packed (2 * held + bin b) room bits

-- B7: the bytes of these bits, begun with an empty byte
abbrev pub bytes_of : List Bool → List ℕ
bytes_of bits = packed 0 7 bits
