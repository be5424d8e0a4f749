-- How far a number is from d times another, and how far once both were divided and rounded.
use Rattle.std.specs.Prelude.{ℕ, ◌+◌, ◌-◌, ◌*◌, ◌/◌, ℤ, pos, nat_abs, ◌-ℤ◌, ◌*ℤ◌}

-- how far a is from d times b
abbrev pub apart : ℕ → ℤ → ℤ → ℕ
apart d a b = nat_abs (a -ℤ pos d *ℤ b)

-- a, but for e, is d times b; each is divided by m and rounded to the nearest: a half for a, and a half d times for b, together less than the next number
unfoldable pub apart_rounded : ℕ → ℕ → ℕ → ℕ
apart_rounded d e m = (2 * e + (d + 1) * m - 1) / (2 * m)
