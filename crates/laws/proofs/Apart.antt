-- `apart` through products, sums of any length and roundings. Assumes nothing.
use mathlib.Core.Path.{◌≡◌, ap, ◌∙◌}
use Prim.Native.Nat.{ℕ, zero, suc, ◌+◌, ◌-◌, ◌*◌, ◌<◌, ◌≤◌}
use native.Mathlib.Nat.{le_refl, mul-le-mul_left, mul-le-mul_right, lt_of_mul-lt-mul_left, le-div_iff_mul-le, div-mul-le_self, div-eq_of_lt}
use native.Mathlib.Omega.{arith}
use lib.IntN.{ℤ, pos, negsuc, neg_ℤ, nat_abs, ◌+ℤ◌, ◌-ℤ◌, ◌*ℤ◌, *ℤ_comm}
use lib.Signed.{shr_z}
use Rattle.laws.specs.Index.{sum_to, total_to}
use Rattle.laws.specs.Apart.{apart, apart_rounded}
use Rattle.laws.proofs.Integers.{up, dn, sum, prod, one, abs, eq_z, neg_up, neg_dn, pos_up, pos_dn, negsuc_up, negsuc_dn, abs_prod, ≤-to, <-to, floor_low, floor_high}
use Rattle.laws.proofs.Floors.{times}

-- a less d times b, as omega reads it
pub less_times : (d : ℕ) (a b : ℤ) → up (a -ℤ pos d *ℤ b) + (dn a + d * up b) ≡ dn (a -ℤ pos d *ℤ b) + (up a + d * dn b)
less_times d a b = omega (arith, sum a (neg_ℤ (pos d *ℤ b)), neg_up (pos d *ℤ b), neg_dn (pos d *ℤ b), times d b)

-- both ways from the two orders, and back
module _ (d e : ℕ) (a b : ℤ) where
  pub apart_of : up a + d * dn b ≤ dn a + d * up b + e → dn a + d * up b ≤ up a + d * dn b + e → apart d a b ≤ e
  apart_of most least = let z = a -ℤ pos d *ℤ b in omega (arith, less_times d a b, one z, abs z)

  pub apart_most : apart d a b ≤ e → up a + d * dn b ≤ dn a + d * up b + e
  apart_most h = let z = a -ℤ pos d *ℤ b in omega (arith, less_times d a b, abs z)

  pub apart_least : apart d a b ≤ e → dn a + d * up b ≤ up a + d * dn b + e
  apart_least h = let z = a -ℤ pos d *ℤ b in omega (arith, less_times d a b, abs z)

-- two numbers of one sign
module _ (d e a b : ℕ) (most : a ≤ d * b + e) (least : d * b ≤ a + e) where
  pub apart_pos : apart d (pos a) (pos b) ≤ e
  apart_pos =
      let u = ap (λ n. d * n) (pos_up b) in
      let v = ap (λ n. d * n) (pos_dn b) in
      apart_of d e (pos a) (pos b) (omega (arith, pos_up a, pos_dn a)) (omega (arith, pos_up a, pos_dn a))

  pub apart_neg : apart d (neg_ℤ (pos a)) (neg_ℤ (pos b)) ≤ e
  apart_neg =
      let u = ap (λ n. d * n) (neg_up (pos b) ∙ pos_dn b) in
      let v = ap (λ n. d * n) (neg_dn (pos b) ∙ pos_up b) in
      let s = neg_up (pos a) in
      let t = neg_dn (pos a) in
      apart_of d e (neg_ℤ (pos a)) (neg_ℤ (pos b)) (omega (arith, pos_up a, pos_dn a)) (omega (arith, pos_up a, pos_dn a))

-- ---- products and sums

-- a common factor goes out
apart_factor : (d : ℕ) (t a b : ℤ) → t *ℤ a -ℤ pos d *ℤ (t *ℤ b) ≡ t *ℤ (a -ℤ pos d *ℤ b)
apart_factor d t a b =
    let z = a -ℤ pos d *ℤ b in
    eq_z _ _
    (omega (
      arith,
      less_times d (t *ℤ a) (t *ℤ b),
      prod t a,
      ap (λ n. d * n) (prod t b),
      prod t z,
      ap (λ n. up t * n) (less_times d a b),
      ap (λ n. dn t * n) (less_times d a b),
    ))

pub apart_times : (d e : ℕ) (t a b : ℤ) → apart d a b ≤ e → apart d (t *ℤ a) (t *ℤ b) ≤ nat_abs t * e
apart_times d e t a b h = rw (apart_factor d t a b, abs_prod t (a -ℤ pos d *ℤ b)) (mul-le-mul_left (nat_abs t) h)

-- the same term of two sums, with a factor t and a weight q
pub apart_term : (d e : ℕ) (t a b : ℤ) (q : ℕ) → apart d a b ≤ e → apart d (t *ℤ (a *ℤ pos q)) (t *ℤ (b *ℤ pos q)) ≤ e * (nat_abs t * q)
apart_term d e t a b q h =
    let s : apart d (pos q *ℤ a) (pos q *ℤ b) ≤ q * e = apart_times d e (pos q) a b h in
    let m : apart d (t *ℤ (pos q *ℤ a)) (t *ℤ (pos q *ℤ b)) ≤ nat_abs t * (q * e) = apart_times d (q * e) t (pos q *ℤ a) (pos q *ℤ b) s in
    rw (*ℤ_comm a (pos q), *ℤ_comm b (pos q)) (omega arith)

pub apart_sum : (d : ℕ) (a b p q : ℤ) → apart d (a +ℤ p) (b +ℤ q) ≤ apart d a b + apart d p q
apart_sum d a b p q =
    let z = a -ℤ pos d *ℤ b in
    let w = p -ℤ pos d *ℤ q in
    let t = a +ℤ p -ℤ pos d *ℤ (b +ℤ q) in
    omega (arith, less_times d (a +ℤ p) (b +ℤ q), sum a p, ap (λ n. d * n) (sum b q), less_times d a b, less_times d p q, one t, abs t, abs z, abs w)

-- if each f k is d times g k but for e * b k, then the sums are but for e times the total of b
pub sum_apart : (d e n : ℕ) (f g : ℕ → ℤ) (b : ℕ → ℕ) → ((k : ℕ) → k < n → apart d (f k) (g k) ≤ e * b k) → apart d (sum_to n f) (sum_to n g) ≤ e * total_to n b
unfolding sum_to total_to
sum_apart d e zero f g b h = apart_pos d (e * 0) 0 0 (omega arith) (omega arith)
sum_apart d e (suc n) f g b h =
    omega (arith, apart_sum d (sum_to n f) (sum_to n g) (f n) (g n), sum_apart d e n f g b (λ k l. h k (omega arith)), h n (le_refl (suc n)))

-- ---- roundings

-- q is a / m to the nearest, as omega reads it: 2 m q <= 2 a + m < 2 m (q + 1)
pub record Rounds (a : ℤ) (m : ℕ) (q : ℤ) : Type 0 where
  pub low : 2 * (m * up q) + 2 * dn a ≤ 2 * (m * dn q) + 2 * up a + m
  pub high : 2 * up a + 2 * (m * dn q) < 2 * dn a + 2 * (m * up q) + m

module _ (z : ℤ) (m : ℕ) (some : 0 < m) where
  floor_under : m * up (shr_z z m) + dn z ≤ m * dn (shr_z z m) + up z
  floor_under = omega (arith, times m (shr_z z m), ≤-to (floor_low z m some))

  floor_over : up z + m * dn (shr_z z m) < dn z + (m * up (shr_z z m) + m)
  floor_over =
      let q = shr_z z m in
      omega (arith, times m (q +ℤ pos 1), <-to (floor_high z m some), ap (λ n. m * n) (sum q (pos 1)), ap (λ n. m * n) (pos_up 1), ap (λ n. m * n) (pos_dn 1))

-- twice the number and m, over 2 m
pub rounds_twice : (a : ℤ) (m : ℕ) → 0 < m → Rounds a m (shr_z (pos 2 *ℤ a +ℤ pos m) (2 * m))
rounds_twice a m some =
    let z = pos 2 *ℤ a +ℤ pos m in
    let s : 0 < 2 * m = omega arith in
    record {
      low = omega (arith, floor_under z (2 * m) s, sum (pos 2 *ℤ a) (pos m), times 2 a, pos_up m, pos_dn m);
      high = omega (arith, floor_over z (2 * m) s, sum (pos 2 *ℤ a) (pos m), times 2 a, pos_up m, pos_dn m);
    }

-- the number and h, over 2 h
pub rounds_half : (a : ℤ) (h : ℕ) → 0 < h → Rounds a (2 * h) (shr_z (a +ℤ pos h) (2 * h))
rounds_half a h some =
    let s : 0 < 2 * h = omega arith in
    record {
      low = omega (arith, floor_under (a +ℤ pos h) (2 * h) s, sum a (pos h), pos_up h, pos_dn h);
      high = omega (arith, floor_over (a +ℤ pos h) (2 * h) s, sum a (pos h), pos_up h, pos_dn h);
    }

scaled : (m n : ℕ) (z : ℤ) → m * up z ≤ n + m * dn z → m * dn z ≤ n + m * up z → m * nat_abs z ≤ n
scaled m n (pos a) h l = omega (arith, ap (λ n. m * n) (pos_up a), ap (λ n. m * n) (pos_dn a))
scaled m n (negsuc a) h l = omega (arith, ap (λ n. m * n) (negsuc_up a), ap (λ n. m * n) (negsuc_dn a))

-- a / m, but for e / m, is d times b / n; both are rounded
module _ (d e m n : ℕ) (a b p q : ℤ) (some : 0 < d) (some-m : 0 < m) (some-n : 0 < n) (first : Rounds a m p) (second : Rounds b n q)
    (most : n * up a + d * m * dn b ≤ n * dn a + d * m * up b + n * e) (least : n * dn a + d * m * up b ≤ n * up a + d * m * dn b + n * e) where
  abbrev z : ℤ
  z = p -ℤ pos d *ℤ q

  wide : n * (2 * m) * (up z + (dn p + d * up q)) ≡ n * (2 * m) * (dn z + (up p + d * dn q))
  wide = ap (λ i. n * (2 * m) * i) (less_times d p q)

  above : n * (2 * (m * up z)) < n * (2 * e + (d + 1) * m + 2 * (m * dn z))
  above =
      let l : n * (2 * (m * up p) + 2 * dn a) ≤ n * (2 * (m * dn p) + 2 * up a + m) = mul-le-mul_left n first.low in
      let h : d * m * (2 * up b + 2 * (n * dn q) + 1) ≤ d * m * (2 * dn b + 2 * (n * up q) + n) = mul-le-mul_left (d * m) (omega (arith, second.high)) in
      let s : 0 < d * m = omega (arith, mul-le-mul_left d some-m) in
      omega (arith, wide)

  under : n * (2 * (m * dn z)) < n * (2 * e + (d + 1) * m + 2 * (m * up z))
  under =
      let h : n * (2 * up a + 2 * (m * dn p) + 1) ≤ n * (2 * dn a + 2 * (m * up p) + m) = mul-le-mul_left n (omega (arith, first.high)) in
      let l : d * m * (2 * (n * up q) + 2 * dn b) ≤ d * m * (2 * (n * dn q) + 2 * up b + n) = mul-le-mul_left (d * m) second.low in
      omega (arith, wide)

  pub rounded_apart : apart d p q ≤ apart_rounded d e m
  unfolding apart_rounded
  rounded_apart =
      let s : 0 < 2 * m = omega arith in
      let i = lt_of_mul-lt-mul_left n above in
      let j = lt_of_mul-lt-mul_left n under in
      (le-div_iff_mul-le s).1 (omega (arith, scaled (2 * m) (2 * e + (d + 1) * m - 1) z (omega arith) (omega arith)))

-- the same with one divisor
pub rounded_alike : (d e m : ℕ) (a b p q : ℤ) → 0 < d → 0 < m → Rounds a m p → Rounds b m q → apart d a b ≤ e → apart d p q ≤ apart_rounded d e m
rounded_alike d e m a b p q some some-m first second near =
    rounded_apart d e m m a b p q some some-m some-m first second
    (omega (arith, mul-le-mul_left m (apart_most d e a b near)))
    (omega (arith, mul-le-mul_left m (apart_least d e a b near)))

-- more of d and of e, more in all
pub rounded_rises : (d d' e e' m : ℕ) → 0 < m → d ≤ d' → e ≤ e' → apart_rounded d e m ≤ apart_rounded d' e' m
unfolding apart_rounded
rounded_rises d d' e e' m some h l =
    let s : 0 < 2 * m = omega arith in
    (le-div_iff_mul-le s).1 (omega (arith, div-mul-le_self (2 * e + (d + 1) * m - 1) (2 * m), mul-le-mul_right m h))

-- of what was alike nothing is owed
pub rounded_none : (m : ℕ) → 0 < m → apart_rounded 1 0 m ≡ 0
unfolding apart_rounded
rounded_none m some = let s : 2 * 0 + (1 + 1) * m - 1 < 2 * m = omega arith in div-eq_of_lt s
