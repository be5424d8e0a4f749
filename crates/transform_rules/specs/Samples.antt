-- T8 and T9: a block's samples from its 64 products S.
use Rattle.std.specs.Prelude.{◌≡◌, List, ℕ, ◌+◌, ◌*◌, ◌/◌, ◌%◌, ◌^◌, ◌≤◌, ℤ, pos, nat_abs, ◌+ℤ◌, ◌*ℤ◌, length, get_or}
use Rattle.std.specs.Int.Signed.{shr_z}
use Rattle.laws.specs.Index.{sum_to, tab}
use Rattle.transform_rules.specs.Cosines.{kernel}

-- T8: "K(x,u) K(y,v) S", "u the column frequency": s holds the 64 S row by row, that of row frequency v at 8v + u
unfoldable pub product : List ℤ → ℕ → ℕ → ℕ → ℕ → ℤ
product s x y v u = kernel x u *ℤ kernel y v *ℤ get_or s (v * 8 + u) (pos 0)

-- T8: the products of one row frequency
unfoldable pub row_sum : List ℤ → ℕ → ℕ → ℕ → ℤ
row_sum s x y v = sum_to 8 (product s x y v)

-- T8: "sum of K(x,u) K(y,v) S"
unfoldable pub double_sum : List ℤ → ℕ → ℕ → ℤ
double_sum s x y = sum_to 8 (row_sum s x y)

-- T8: "floor((sum of .. + 2^27) / 2^28) + 2^(7+R)", the last being the centre; `shr_z z m` is the floor of z / m
unfoldable pub rounded : ℤ → ℤ → ℤ
rounded sum centre = shr_z (sum +ℤ pos (2 ^ 27)) (2 ^ 28) +ℤ centre

-- T8: "The sample at row y, column x"
unfoldable pub sample : List ℤ → ℤ → ℕ → ℕ → ℤ
sample s centre x y = rounded (double_sum s x y) centre

-- T9: "a block's samples stand row by row"
unfoldable pub block_samples : List ℤ → ℤ → List ℤ
block_samples s centre = tab 64 (λ p. sample s centre (p % 8) (p / 8))

-- what the code asks of the products: 64 of them, none beyond 2^23 (past the end a list gives 0)
pub record Products (s : List ℤ) : Type 0 where
  pub long : length s ≡ 64
  pub small : (k : ℕ) → nat_abs (get_or s k (pos 0)) ≤ 2 ^ 23
