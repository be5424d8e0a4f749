-- Laws of `total_to`, for any length. Assumes nothing.
use mathlib.Core.Path.{◌≡◌, refl, ap₂}
use Prim.Native.Nat.{ℕ, zero, suc, ◌+◌, ◌*◌, ◌<◌, ◌≤◌}
use native.Mathlib.Nat.{le_refl}
use native.Mathlib.Numerals.{add-one}
use native.Mathlib.Omega.{arith}
use Rattle.laws.specs.Index.{total_to}

pub total_none : (f : ℕ → ℕ) → total_to 0 f ≡ 0
unfolding total_to
total_none f = refl

pub total_more : (n : ℕ) (f : ℕ → ℕ) → total_to (n + 1) f ≡ total_to n f + f n
unfolding total_to
total_more n f = rw add-one

-- equal terms, equal totals
pub total_ext : (n : ℕ) (f g : ℕ → ℕ) → ((k : ℕ) → k < n → f k ≡ g k) → total_to n f ≡ total_to n g
unfolding total_to
total_ext zero f g h = refl
total_ext (suc n) f g h = ap₂ (λ (a b : ℕ). a + b) (total_ext n f g (λ k l. h k (omega arith))) (h n (le_refl (suc n)))

-- a constant factor comes out
pub total_factor : (c n : ℕ) (f : ℕ → ℕ) → total_to n (λ k. c * f k) ≡ c * total_to n f
unfolding total_to
total_factor c zero f = omega arith
total_factor c (suc n) f = omega (arith, total_factor c n f)

-- totals of terms that are at most e times others
pub total_le : (e n : ℕ) (a b : ℕ → ℕ) → ((k : ℕ) → k < n → a k ≤ e * b k) → total_to n a ≤ e * total_to n b
unfolding total_to
total_le e zero a b h = omega arith
total_le e (suc n) a b h = omega (arith, total_le e n a b (λ k l. h k (omega arith)), h n (le_refl (suc n)))

-- a bound on each term bounds the total
pub total_small : (b n : ℕ) (f : ℕ → ℕ) → ((k : ℕ) → k < n → f k ≤ b) → total_to n f ≤ n * b
unfolding total_to
total_small b zero f h = omega arith
total_small b (suc n) f h = omega (arith, total_small b n f (λ k l. h k (omega arith)), h n (le_refl (suc n)))

-- a turn of a loop that adds up, and its end
pub total_turn : (f : ℕ → ℕ) (n : ℕ) {a r : ℕ} → a ≡ total_to n f → r ≡ f n → a + r ≡ total_to (n + 1) f
total_turn f n p q = rw (p, q, total_more)

pub total_end : (f : ℕ → ℕ) (n m : ℕ) {a : ℕ} → a ≡ total_to n f → n ≤ m → m ≤ n → a ≡ total_to m f
total_end f n m p h k = let e : n ≡ m = omega arith in rw (← e) p
