-- The loop that reads a number, a one moved up, and a correction on 32 bits. Assumes nothing.
use mathlib.Core.Path.{◌≡◌, refl, ap, ◌∙◌}
use mathlib.Core.Bool.{Bool, true, false, true≢false}
use Prim.Native.Nat.{ℕ, suc, ◌+◌, ◌-◌, ◌*◌, ◌%◌, ◌^◌, ◌≤◌, ◌<◌}
use native.Mathlib.Numerals.{add-one}
use native.Mathlib.Nat.{pow-suc, mod-eq_of_lt}
use native.Mathlib.Omega.{arith}
use lib.Pow.{pow_mono}
use lib.IntN.{ℤ, pos, negsuc, neg_ℤ, ◌+ℤ◌, ◌-ℤ◌, ◌*ℤ◌, +ℤ_idr}
use lib.Signed.{lt_z}
use borrow.Author.Tests.{ltb-true}
use Rattle.bit_rules.specs.Digits.{bin}
use Rattle.bit_rules.specs.Source.{Source, Stop, got, stopped, take_bit}
use Rattle.bit_rules.proofs.Digits.{bin_small}
use Rattle.bit_rules.specs.Number.{take_number}
use Rattle.plane_rules.specs.AcRead.{corrected}

-- ---- the loop: what is left to read behind i bits gives what the whole gives

pub record Now (n : ℕ) (s₀ s : Source) (v i : ℕ) : Type 0 where
  pub small : v < 2 ^ i
  pub same : take_number (n - i) v s ≡ take_number n 0 s₀

module _ {n : ℕ} {s₀ s : Source} {v i : ℕ} (a : Now n s₀ s v i) where
  pub now_end : i ≡ n → got v s ≡ take_number n 0 s₀
  unfolding take_number
  now_end e = let z : n - i ≡ 0 = omega arith in rw z at a.same

  module _ (h : i < n) where
    next : take_number (suc (n - (i + 1))) v s ≡ take_number n 0 s₀
    next = let e : n - i ≡ suc (n - (i + 1)) = omega arith in rw e at a.same

    pub now_stopped : {x : Stop} → stopped x ≡ take_bit s → stopped x ≡ take_number n 0 s₀
    unfolding take_number
    now_stopped e = rw (← e) at next

    pub now_turn : {b : Bool} {t : Source} → got b t ≡ take_bit s → Now n s₀ t (2 * v + bin b) (i + 1)
    unfolding take_number
    now_turn {b} e = record { small = rw (add-one i, pow-suc 2 i) (omega (arith, a.small, bin_small b)); same = rw (← e) at next }

-- ---- a one moved up

pub moved_one : (r : ℕ) → r < 15 → 1 * 2 ^ r % 18446744073709551616 ≡ 2 ^ r
moved_one r h =
    let e : 1 * 2 ^ r ≡ 2 ^ r = omega arith in
    rw e (mod-eq_of_lt (omega (arith, pow_mono {i = r} {j = 15} (omega arith))))

pub power_small : (r : ℕ) → r < 15 → 2 ^ r ≤ 32768
power_small r h = pow_mono {i = r} {j = 15} (omega arith)

-- ---- a correction

module _ (value : ℤ) (b : Bool) where
  pub down : lt_z value (pos 0) ≡ true → pos 2 *ℤ value -ℤ pos (bin b) ≡ corrected value b
  down t = go value b t
    where
      go : (v : ℤ) (b : Bool) → lt_z v (pos 0) ≡ true → pos 2 *ℤ v -ℤ pos (bin b) ≡ corrected v b
      go (pos n) b t = absurd (omega (arith, ltb-true n 0 t))
      go (negsuc n) b t = let e : 2 * suc n ≡ suc (2 * n + 1) = omega arith in ap (λ (k : ℕ). neg_ℤ (pos k) -ℤ pos (bin b)) e ∙ less n b
        where
          less : (n : ℕ) (b : Bool) → negsuc (2 * n + 1) -ℤ pos (bin b) ≡ negsuc (2 * n + 1 + bin b)
          less n true = ap negsuc (omega arith)
          less n false = +ℤ_idr (negsuc (2 * n + 1)) ∙ ap negsuc (omega arith)

  pub upward : lt_z value (pos 0) ≡ false → pos 2 *ℤ value +ℤ pos (bin b) ≡ corrected value b
  upward t = go value t
    where
      go : (v : ℤ) → lt_z v (pos 0) ≡ false → pos 2 *ℤ v +ℤ pos (bin b) ≡ corrected v b
      go (pos n) t = refl
      go (negsuc n) t = absurd (true≢false t)
