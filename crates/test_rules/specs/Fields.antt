-- The fields of a record of vectors: numbers of two and four bytes, the low byte first, and bytes behind their count. Past the end stand zeros.
use Rattle.std.specs.Prelude.{cond, List, [], ℕ, ◌+◌, ◌*◌, length, get_or, take, drop, ℤ, pos, ◌-ℤ◌, leb}

-- n further on, no further than the end
unfoldable pub past : ℕ → ℕ → ℕ → ℕ
past end at n = cond (leb (at + n) end) (at + n) end

unfoldable pub pair_at : List ℕ → ℕ → ℕ
pair_at bytes at = get_or bytes at 0 + 256 * get_or bytes (at + 1) 0

unfoldable pub number_at : List ℕ → ℕ → ℕ
number_at bytes at = pair_at bytes at + 65536 * pair_at bytes (at + 2)

-- n bytes, or none where there are not so many
unfoldable pub part : List ℕ → ℕ → ℕ → List ℕ
part bytes at n = cond (leb (at + n) (length bytes)) (take n (drop at bytes)) []

unfoldable pub lent : List ℕ → ℕ → List ℕ
lent bytes at = part bytes (at + 4) (number_at bytes at)

-- a number that is stored with 2^31 added
abbrev pub lowered : ℕ → ℤ
lowered w = pos w -ℤ pos 2147483648

-- number i of a list that begins at a position
unfoldable pub value_at : List ℕ → ℕ → ℕ → ℤ
value_at bytes at i = lowered (number_at bytes (at + 4 * i))

unfoldable pub size_at : List ℕ → ℕ → ℕ → ℕ
size_at bytes at i = pair_at bytes (at + 2 * i)
