-- What the words of `box_out` ask for: a type in four letters or eight hexadecimal digits, an instance in decimal.
use Rattle.std.specs.Prelude.{ℕ, ◌+◌, ◌*◌, ◌-◌, List, [], ◌∷◌, cond, length, get_or, ltb, leb, eqb, Option, Some, None}

-- P22: the value of 0 to 9, A to F, a to f; 255 for any other byte
unfoldable pub digit : ℕ → ℕ
digit b =
    cond (ltb b 48) 255
    (cond (ltb b 58) (b - 48)
    (cond (ltb b 65) 255
    (cond (ltb b 71) (b - 55)
    (cond (ltb b 97) 255
    (cond (ltb b 103) (b - 87) 255)))))

-- P22: the number that digits to a base make behind a value; a value above 28 bits takes no more, so that 32 bits hold all
unfoldable pub read_from : ℕ → ℕ → List ℕ → Option ℕ
read_from base value [] = Some value
read_from base value (b ∷ r) = cond (ltb 268435455 value) None (cond (ltb (digit b) base) (read_from base (value * base + digit b) r) None)

-- P22: four bytes, or eight hexadecimal digits of either case
unfoldable pub type_of : List ℕ → Option ℕ
type_of word =
    cond (eqb (length word) 4) (Some (((get_or word 0 0 * 256 + get_or word 1 0) * 256 + get_or word 2 0) * 256 + get_or word 3 0))
    (cond (eqb (length word) 8) (read_from 16 0 word) None)

-- P22: an instance has 16 bits
abbrev pub up_to : ℕ → Option ℕ → Option ℕ
up_to most (Some value) = cond (leb value most) (Some value) None
up_to most None = None

-- P22: decimal, 0 to 65535; a word of no bytes asks for none
unfoldable pub instance_of : List ℕ → Option ℕ
instance_of word = cond (eqb (length word) 0) None (up_to 65535 (read_from 10 0 word))
