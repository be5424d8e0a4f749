-- B1, R11: a number of so many bits.
use Rattle.std.specs.Prelude.{ℕ, zero, suc, ◌+◌, ◌*◌}
use Rattle.bit_rules.specs.Digits.{bin}
use Rattle.bit_rules.specs.Source.{take_bit}
use Rattle.bit_rules.specs.Reader.{Reader, ◌>>=◌, done}

-- B1, R11: the number v with n more bits behind it, the highest first
unfoldable pub take_number : ℕ → ℕ → Reader ℕ
take_number zero v = done v
take_number (suc n) v = do
  b ← take_bit
  take_number n (2 * v + bin b)
