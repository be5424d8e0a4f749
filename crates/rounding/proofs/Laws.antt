-- Laws of rounding, clipping and weighing, for any numbers. Assumes nothing.
use borrow.Author.Tests.{le-ltb}
use mathlib.Core.Path.{◌≡◌, refl, sym, ap, subst, ◌∙◌}
use mathlib.Core.Bool.{Bool, true, false}
use Prim.Native.Nat.{ℕ, ◌+◌, ◌*◌, ◌/◌, ◌%◌, ◌^◌, ◌≤◌, ◌<◌, min, zero-le}
use native.Mathlib.Nat.{mul-le-mul_left, lt_of_mul-lt-mul_left}
use native.Mathlib.Omega.{arith}
use lib.Dec.{T, leb, leb→le}
use lib.Pow.{pow_mono}
use lib.IntN.{ℤ, pos, negsuc, neg_ℤ, nat_abs, ◌+ℤ◌, ◌-ℤ◌, ◌*ℤ◌}
use lib.Signed.{lt_z, non_neg, shr_z}
use Rattle.laws.proofs.Integers.{up, dn, sum, eq_z, pos_up, pos_dn, neg_up, neg_dn, abs, one, abs_sum, abs_neg, abs_prod_le, ≤-to, <-to, ≤-of, <-of, floor_low, floor_high, floor_abs}
use Rattle.laws.proofs.Floors.{times, floor_is, floor_scale}
use Rattle.laws.proofs.Lists.{each}
use Rattle.laws.proofs.Powers.{one_moved}
use Rattle.merge_rules.specs.Near.{nearest, clip, row}

-- ---- nearest

-- half of m is added, and the quotient taken downward
pub nearest_floor : (t : ℤ) (m : ℕ) → 0 < m → nearest t m ≡ shr_z (t +ℤ pos (m / 2)) m
unfolding nearest
nearest_floor t m h =
    let q = shr_z (t +ℤ pos (m / 2)) m in
    let z = t +ℤ pos (m / 2) in
    let w = pos 2 *ℤ t +ℤ pos m in
    let low = ≤-to (floor_low z m h) in
    let high = <-to (floor_high z m h) in
    let e = sum t (pos (m / 2)) in
    let f = sum (pos 2 *ℤ t) (pos m) in
    floor_is w q (2 * m) (omega arith)
    (≤-of _ _ (omega (arith, times m q, times (2 * m) q, times 2 t, pos_up (m / 2), pos_dn (m / 2), pos_up m, pos_dn m)))
    (<-of _ _ (omega (arith, times m (q +ℤ pos 1), times (2 * m) (q +ℤ pos 1), times 2 t, pos_up (m / 2), pos_dn (m / 2), pos_up m, pos_dn m)))

-- a factor of both sides goes out
pub nearest_scale : (k : ℕ) (t : ℤ) (m : ℕ) → 0 < k → 0 < m → nearest (pos k *ℤ t) (k * m) ≡ nearest t m
unfolding nearest
nearest_scale k t m hk hm =
    ap (λ (z : ℤ). shr_z z (2 * (k * m))) gathered ∙ ap (shr_z (pos k *ℤ (pos 2 *ℤ t +ℤ pos m))) twice ∙ floor_scale k (pos 2 *ℤ t +ℤ pos m) (2 * m) hk (omega arith)
  where
    twice : 2 * (k * m) ≡ k * (2 * m)
    twice = omega arith

    gathered : pos 2 *ℤ (pos k *ℤ t) +ℤ pos (k * m) ≡ pos k *ℤ (pos 2 *ℤ t +ℤ pos m)
    gathered = eq_z _ _
        (omega (
          arith,
          sum (pos 2 *ℤ (pos k *ℤ t)) (pos (k * m)),
          times 2 (pos k *ℤ t),
          times k t,
          times k (pos 2 *ℤ t +ℤ pos m),
          ap (λ n. k * n) (sum (pos 2 *ℤ t) (pos m)),
          ap (λ n. k * n) (times 2 t),
          ap (λ n. k * n) (pos_up m),
          ap (λ n. k * n) (pos_dn m),
          pos_up (k * m),
          pos_dn (k * m),
        ))

pub nearest_small : (t : ℤ) (m : ℕ) → 0 < m → nat_abs (nearest t m) ≤ nat_abs t + 1
nearest_small t m h =
    subst (λ (z : ℤ). nat_abs z ≤ nat_abs t + 1) (sym (nearest_floor t m h))
    (floor_abs (t +ℤ pos (m / 2)) m (nat_abs t + 1) h (omega (arith, abs_sum t (pos (m / 2)), mul-le-mul_left (nat_abs t) h)))

-- a t between -b m and b m is b at most
pub nearest_within : (t : ℤ) (m b : ℕ) → 0 < m → nat_abs t ≤ b * m → nat_abs (nearest t m) ≤ b
unfolding nearest
nearest_within t m b h g =
    let q = nearest t m in
    let w = pos 2 *ℤ t +ℤ pos m in
    let low = ≤-to (floor_low w (2 * m) (omega arith)) in
    let high = <-to (floor_high w (2 * m) (omega arith)) in
    let f = sum (pos 2 *ℤ t) (pos m) in
    let above : m * (2 * up q) < m * (2 * b + 2 + 2 * dn q) = omega (arith, times (2 * m) q, times 2 t, pos_up m, pos_dn m, abs t) in
    let below : m * (2 * dn (q +ℤ pos 1)) < m * (2 * b + 2 * up (q +ℤ pos 1)) = omega (arith, times (2 * m) (q +ℤ pos 1), times 2 t, pos_up m, pos_dn m, abs t) in
    omega (arith, lt_of_mul-lt-mul_left m above, lt_of_mul-lt-mul_left m below, sum q (pos 1), pos_up 1, pos_dn 1, abs q, one q, one (q +ℤ pos 1))

-- 4000000000000 wholes and a half, in millionths
abbrev pub lift : ℕ
lift = 4000000000000500000

-- t millionths, lifted to n, which is positive
pub whole_is : (t : ℤ) (n : ℕ) → t +ℤ pos lift ≡ pos n → pos (n / 1000000) -ℤ pos 4000000000000 ≡ nearest t 1000000
whole_is t n e =
    let k = n / 1000000 in
    let z = t +ℤ pos 500000 in
    let q = pos k -ℤ pos 4000000000000 in
    let over : up t + lift ≡ n + dn t =
    omega (arith, sum t (pos lift), ap up e, ap dn e, pos_up n, pos_dn n, pos_up lift, pos_dn lift)
    in
    let short : up q + 4000000000000 ≡ k + dn q =
    omega (arith, sum (pos k) (neg_ℤ (pos 4000000000000)), pos_up k, pos_dn k, neg_up (pos 4000000000000), neg_dn (pos 4000000000000), pos_up 4000000000000, pos_dn 4000000000000)
    in
    let half = sum t (pos 500000) in
    let next = sum q (pos 1) in
    sym
    (nearest_floor t 1000000 (omega arith)
    ∙ floor_is z q 1000000 (omega arith)
    (≤-of _ _ (omega (arith, times 1000000 q, pos_up 500000, pos_dn 500000)))
    (<-of _ _ (omega (arith, times 1000000 (q +ℤ pos 1), pos_up 500000, pos_dn 500000, pos_up 1, pos_dn 1))))

-- t lifted is no negative number, and fits
pub record Lifted (t : ℤ) : Type 0 where
  pub same : t +ℤ pos lift ≡ pos (nat_abs (t +ℤ pos lift))
  pub small : nat_abs (t +ℤ pos lift) ≤ 8000000000000500000

pub lifted : (t : ℤ) → nat_abs t ≤ 4000000000000000000 → Lifted t
lifted t h =
    let z = t +ℤ pos lift in
    let e = sum t (pos lift) in
    let known : nat_abs z ≡ up z + dn z = abs z in
    let up' : up (pos lift) ≡ lift = pos_up lift in
    let dn' : dn (pos lift) ≡ 0 = pos_dn lift in
    record {
      same = eq_z _ _ (omega (arith, abs t, one z, pos_up (nat_abs z), pos_dn (nat_abs z)));
      small = omega (arith, abs t, one z);
    }

-- ---- clip

true_false {ℓ} : {X : Type ℓ} {t : Bool} → t ≡ true → t ≡ false → X
true_false p q = absurd (subst T (sym p ∙ q) tt)

-- below 0
pub clip_low : (v : ℤ) → lt_z v (pos 0) ≡ true → (top : ℕ) → min 0 top ≡ clip v top
unfolding clip
clip_low (pos n) e top = true_false e (le-ltb n 0 zero-le)
clip_low (negsuc n) e top = omega arith

-- from 0 on
pub record Raised (v : ℤ) : Type 0 where
  pub positive : T (non_neg v)
  pub same : (top : ℕ) → min (nat_abs v) top ≡ clip v top

pub clip_raised : (v : ℤ) → lt_z v (pos 0) ≡ false → Raised v
unfolding clip
clip_raised (pos n) e = record { positive = tt; same = λ top. refl }
clip_raised (negsuc n) e = true_false refl e

pub clip_small : (v : ℤ) (top : ℕ) → clip v top ≤ top
unfolding clip
clip_small (pos n) top = omega arith
clip_small (negsuc n) top = omega arith

-- ---- row

-- the magnitudes of three products, and of their sums, for weights to u and numbers to v
module _ (u v : ℕ) (k l m a b c : ℤ) (hk : nat_abs k ≤ u) (hl : nat_abs l ≤ u) (hm : nat_abs m ≤ u) (ha : nat_abs a ≤ v) (hb : nat_abs b ≤ v) (hc : nat_abs c ≤ v) where
  pub pair_small : nat_abs (k *ℤ a +ℤ l *ℤ b) ≤ 2 * (u * v)
  pair_small = omega (arith, abs_sum (k *ℤ a) (l *ℤ b), abs_prod_le k a u v hk ha, abs_prod_le l b u v hl hb)

  pub row_small : nat_abs (row k l m a b c) ≤ 3 * (u * v)
  unfolding row
  row_small = omega (arith, abs_sum (k *ℤ a +ℤ l *ℤ b) (m *ℤ c), pair_small, abs_prod_le m c u v hm hc)

-- ---- powers of two

pub power_moved : (k : ℕ) → k ≤ 16 → 1 * 2 ^ k % 4294967296 ≡ 2 ^ k
power_moved k h = one_moved k 4294967296 (omega (arith, pow_mono {i = k} {j = 16} h))

pub top_above : (r : ℕ) → r ≤ 8 → 256 ≤ 2 ^ (8 + r)
top_above r h = leb→le 256 (2 ^ (8 + r)) (each 9 (λ k. leb 256 (2 ^ (8 + k))) tt r (omega arith))

pub top_below : (r : ℕ) → r ≤ 8 → 2 ^ (8 + r) ≤ 65536
top_below r h = leb→le (2 ^ (8 + r)) 65536 (each 9 (λ k. leb (2 ^ (8 + k)) 65536) tt r (omega arith))

pub centre_below : (r : ℕ) → r ≤ 8 → 2 ^ (7 + r) ≤ 32768
centre_below r h = leb→le (2 ^ (7 + r)) 32768 (each 9 (λ k. leb (2 ^ (7 + k)) 32768) tt r (omega arith))

-- ---- differences

pub less_small : (x centre : ℤ) → nat_abs x ≤ 549755813888 → nat_abs centre ≤ 32768 → nat_abs (x -ℤ centre) ≤ 549755846656
less_small x centre h g = omega (arith, abs_sum x (neg_ℤ centre), abs_neg centre)
