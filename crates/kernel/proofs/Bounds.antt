-- The magnitudes in the transform: a product is at most 2^49, a row's sum 2^52, the double sum 2^55, so that 64-bit sums suffice. Assumes nothing.
use mathlib.Core.List.{List}
use Prim.Native.Nat.{ℕ, ◌+◌, ◌*◌, ◌^◌, ◌<◌, ◌≤◌}
use native.Mathlib.Omega.{arith}
use lib.IntN.{ℤ, pos, nat_abs, ◌+ℤ◌, ◌*ℤ◌}
use lib.ListN.{get_or}
use lib.Signed.{shr_z}
use Rattle.laws.specs.Index.{sum_to}
use Rattle.laws.proofs.Integers.{abs_prod_le, abs_sum, floor_abs}
use Rattle.laws.proofs.Sums.{sum_abs}
use Rattle.transform_rules.specs.Cosines.{kernel}
use Rattle.transform_rules.specs.Samples.{product, row_sum, double_sum, Products}
use Rattle.kernel.proofs.Tables.{kernel_small}

pub factors_small : (x u y v : ℕ) → x < 8 → u < 8 → y < 8 → v < 8 → nat_abs (kernel x u *ℤ kernel y v) ≤ 67108864
factors_small x u y v hx hu hy hv = abs_prod_le (kernel x u) (kernel y v) 8192 8192 (kernel_small x u hx hu) (kernel_small y v hy hv)

module _ (s : List ℤ) (small : Products s) (x y : ℕ) (hx : x < 8) (hy : y < 8) where
  pub product_small : (v u : ℕ) → v < 8 → u < 8 → nat_abs (product s x y v u) ≤ 2 ^ 49
  unfolding product
  product_small v u hv hu =
      abs_prod_le (kernel x u *ℤ kernel y v) (get_or s (v * 8 + u) (pos 0)) 67108864 8388608 (factors_small x u y v hx hu hy hv) (small.small (v * 8 + u))

  -- the first n products of a row, and the first n rows
  pub row_small : (v n : ℕ) → v < 8 → n ≤ 8 → nat_abs (sum_to n (product s x y v)) ≤ 2 ^ 52
  row_small v n hv hn = omega (arith, sum_abs (2 ^ 49) n (product s x y v) (λ k l. product_small v k hv (omega arith)))

  pub rows_small : (n : ℕ) → n ≤ 8 → nat_abs (sum_to n (row_sum s x y)) ≤ 2 ^ 55
  unfolding row_sum
  rows_small n hn = omega (arith, sum_abs (2 ^ 52) n (row_sum s x y) (λ k l. row_small k 8 (omega arith) (omega arith)))

  pub double_small : nat_abs (double_sum s x y) ≤ 2 ^ 55
  unfolding double_sum
  double_small = rows_small 8 (omega arith)

-- with the half added, after the division, and with the centre
module _ (sum : ℤ) (h : nat_abs sum ≤ 2 ^ 55) where
  pub added_small : nat_abs (sum +ℤ pos 134217728) ≤ 36028797153181696
  added_small = omega (arith, abs_sum sum (pos 134217728))

  pub floor_small : nat_abs (shr_z (sum +ℤ pos 134217728) 268435456) ≤ 134217729
  floor_small = floor_abs (sum +ℤ pos 134217728) 268435456 134217729 (omega arith) (omega (arith, added_small))

  pub rounded_small : (centre : ℤ) → nat_abs centre ≤ 2048 → nat_abs (shr_z (sum +ℤ pos 134217728) 268435456 +ℤ centre) ≤ 134219777
  rounded_small centre k = omega (arith, abs_sum (shr_z (sum +ℤ pos 134217728) 268435456) centre, floor_small)
