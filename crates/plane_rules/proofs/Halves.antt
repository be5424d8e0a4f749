-- A value against its half, told by its low bit. Assumes nothing.
use mathlib.Core.Path.{◌≡◌, refl, ap, ◌∙◌}
use mathlib.Core.Bool.{Bool, true, false, not}
use Prim.Native.Nat.{ℕ, suc, ◌+◌, ◌*◌, ◌/◌, ◌%◌}
use native.Mathlib.Omega.{arith}
use lib.Dec.{eqb, ltb}
use lib.IntN.{pos, negsuc}
use borrow.Author.Tests.{eqb-true, eqb-false, ne_eqb, lt-ltb, le-ltb}
use Rattle.laws.proofs.Integers.{abs_neg}
use Rattle.bit_rules.specs.Digits.{odd}
use Rattle.plane_rules.specs.Dc.{dc_half, dc_bit}
use Rattle.plane_rules.specs.AcWrite.{ac_half, still, fresh, keep, kind_of}

-- more than twice its half is odd
more_odd : (n : ℕ) → ltb (2 * (n / 2)) n ≡ odd n
more_odd n = go (odd n) refl
  where
    go : (b : Bool) → odd n ≡ b → ltb (2 * (n / 2)) n ≡ b
    go true e = lt-ltb (2 * (n / 2)) n (omega (arith, eqb-true (n % 2) 1 e))
    go false e = le-ltb (2 * (n / 2)) n (omega (arith, eqb-false (n % 2) 1 e))

-- ---- DC

pub bit_up : (n : ℕ) → dc_bit (pos n) ≡ odd n
unfolding dc_bit dc_half
bit_up n = more_odd n

pub bit_down : (n : ℕ) → dc_bit (negsuc n) ≡ not (odd n)
unfolding dc_bit dc_half
bit_down n = let e : 2 * suc (n / 2) ≡ suc (2 * (n / 2) + 1) = omega arith in rw e (go (odd n) refl)
  where
    go : (b : Bool) → odd n ≡ b → ltb n (2 * (n / 2) + 1) ≡ not b
    go true e = le-ltb n (2 * (n / 2) + 1) (omega (arith, eqb-true (n % 2) 1 e))
    go false e = lt-ltb n (2 * (n / 2) + 1) (omega (arith, eqb-false (n % 2) 1 e))

-- ---- AC

pub kind_zero : kind_of (pos 0) ≡ still
unfolding kind_of ac_half
kind_zero = refl

pub kind_one : kind_of (pos 1) ≡ fresh true
unfolding kind_of ac_half
kind_one = refl

pub kind_minus_one : kind_of (negsuc 0) ≡ fresh false
unfolding kind_of ac_half
kind_minus_one = refl

two_odd : (n : ℕ) → ltb (2 * (suc (suc n) / 2)) (suc (suc n)) ≡ odd n
two_odd n = let e : suc (suc n) % 2 ≡ n % 2 = omega arith in more_odd (suc (suc n)) ∙ ap (λ (k : ℕ). eqb k 1) e

pub kind_up : (n : ℕ) → kind_of (pos (suc (suc n))) ≡ keep (odd n)
unfolding kind_of ac_half
kind_up n = rw (ne_eqb (suc (suc n) / 2) 0 (omega arith), two_odd n)

pub kind_down : (n : ℕ) → kind_of (negsuc (suc n)) ≡ keep (odd n)
unfolding kind_of ac_half
kind_down n = rw (abs_neg (pos (suc (suc n) / 2)), ne_eqb (suc (suc n) / 2) 0 (omega arith), two_odd n)
