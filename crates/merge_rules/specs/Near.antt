-- How the merge rounds (M8), clips (M11) and weighs numbers (M9, M15).
use Rattle.std.specs.Prelude.{ℕ, ◌+◌, ◌-◌, ◌*◌, ◌^◌, min, ℤ, pos, negsuc, ◌+ℤ◌, ◌*ℤ◌}
use Rattle.std.specs.Int.Signed.{shr_z}

-- M8: t / m "to nearest, halves up": the floor of t / m + 1/2, for negative numbers too
unfoldable pub nearest : ℤ → ℕ → ℤ
nearest t m = shr_z (pos 2 *ℤ t +ℤ pos m) (2 * m)

-- M11: clip to 0 .. top
unfoldable pub clip : ℤ → ℕ → ℕ
clip (pos n) top = min n top
clip (negsuc n) top = 0

-- M9: three numbers with a weight each
unfoldable pub row : ℤ → ℤ → ℤ → ℤ → ℤ → ℤ → ℤ
row k l m a b c = k *ℤ a +ℤ l *ℤ b +ℤ m *ℤ c

-- L7, M7, M11: the largest number of 8 + r bits: 2^(8+r)-1
abbrev pub top : ℕ → ℕ
top r = 2 ^ (8 + r) - 1
