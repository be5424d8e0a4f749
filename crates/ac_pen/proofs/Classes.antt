-- The class of a run's length, and the bits behind its code. Assumes nothing.
use mathlib.Core.Path.{◌≡◌, refl, ap, ap₂, ◌∙◌}
use mathlib.Core.Bool.{Bool, true, false, cond}
use mathlib.Core.List.{List, ◌∷◌}
use Prim.Native.Nat.{ℕ, zero, suc, ◌+◌, ◌-◌, ◌*◌, ◌/◌, ◌%◌, ◌^◌, ◌≤◌, ◌<◌}
use native.Mathlib.Nat.{pow-suc, add-mul-div_right}
use native.Mathlib.Omega.{arith}
use lib.Dec.{eqb, ltb}
use lib.Pow.{pow_pos}
use borrow.Author.Tests.{lt-ltb, le-ltb, ltb-false}
use Rattle.bit_rules.specs.Digits.{digits}
use Rattle.plane_rules.specs.AcWrite.{order, class}

pub class_high : (most n : ℕ) → order most n ≤ most
unfolding order
class_high zero n = omega arith
class_high (suc most) n = go (ltb n 2) (class_high most (n / 2))
  where
    go : (t : Bool) → order most (n / 2) ≤ most → cond t 0 (suc (order most (n / 2))) ≤ suc most
    go true h = omega arith
    go false h = omega arith

-- ---- halving on

pub class_turn : (n m r : ℕ) → r < 14 → 2 ≤ m → r + order (14 - r) m ≡ class n → r + 1 + order (14 - (r + 1)) (m / 2) ≡ class n
unfolding order
class_turn n m r h k e =
    let s : 14 - r ≡ suc (14 - (r + 1)) = omega arith in
    omega (arith, rw (s, le-ltb m 2 k) at e)

pub class_here : (n m r : ℕ) → r < 14 → m < 2 → r + order (14 - r) m ≡ class n → r ≡ class n
unfolding order
class_here n m r h k e =
    let s : 14 - r ≡ suc (14 - (r + 1)) = omega arith in
    omega (arith, rw (s, lt-ltb m 2 k) at e)

pub class_end : (n m r : ℕ) → r ≡ 14 → r + order (14 - r) m ≡ class n → 14 ≡ class n
unfolding order
class_end n m r h e = omega (arith, rw h at e)

-- ---- the bits

order_low : (most n : ℕ) → 1 ≤ n → 2 ^ order most n ≤ n
unfolding order
order_low zero n h = h
order_low (suc most) n h = go (ltb n 2) refl (order_low most (n / 2))
  where
    go : (t : Bool) → ltb n 2 ≡ t → (1 ≤ n / 2 → 2 ^ order most (n / 2) ≤ n / 2) → 2 ^ cond t 0 (suc (order most (n / 2))) ≤ n
    go true e l = h
    go false e l = omega (arith, pow-suc 2 (order most (n / 2)), l (omega (arith, ltb-false n 2 e)))

-- what stands above the n low bits does not matter
high_bits : (n v q : ℕ) → digits n (v + q * 2 ^ n) ≡ digits n v
unfolding digits
high_bits zero v q = refl
high_bits (suc n) v q =
    let e : q * 2 ^ suc n ≡ 2 * q * 2 ^ n = omega (arith, ap (λ (k : ℕ). q * k) (pow-suc 2 n)) in
    rw e (ap₂ (λ (x : ℕ) (l : List Bool). eqb x 1 ∷ l) low (high_bits n v (2 * q)))
  where
    low : (v + 2 * q * 2 ^ n) / 2 ^ n % 2 ≡ v / 2 ^ n % 2
    low = omega (arith, add-mul-div_right v (2 * q) {z = 2 ^ n} (pow_pos n))

pub run_bits : (n : ℕ) → 1 ≤ n → digits (class n) n ≡ digits (class n) (n - 2 ^ class n)
run_bits n h =
    let e : n ≡ n - 2 ^ class n + 1 * 2 ^ class n = omega (arith, order_low 14 n h) in
    ap (digits (class n)) e ∙ high_bits (class n) (n - 2 ^ class n) 1
