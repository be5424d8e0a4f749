-- What the code's tests of a value say of its kind. Assumes nothing.
use mathlib.Core.Path.{◌≡◌, refl, sym, ap, ◌∙◌}
use mathlib.Core.Bool.{Bool, true, false, not}
use Prim.Native.Nat.{ℕ, zero, suc, ◌%◌}
use native.Mathlib.Omega.{arith}
use lib.Dec.{eqb}
use lib.IntN.{ℤ, pos, negsuc}
use lib.Signed.{rem_z}
use mir.Syntax.{w32}
use mir.Val.{SFits, of_z}
use borrow.Author.Tests.{eqb-true, eqb-false, eq-eqb, ne_eqb}
use Rattle.laws.proofs.Integers.{bits_one}
use Rattle.bit_rules.specs.Digits.{odd}
use Rattle.plane_rules.specs.AcWrite.{keep, kind_of}
use Rattle.plane_rules.proofs.Halves.{bit_up, bit_down, kind_one, kind_minus_one, kind_up, kind_down}
use Rattle.planes.proofs.LowBit.{low_bit}
use Rattle.ac_plan.specs.Code.{still_is}

-- equal bits, equal numbers
pub is_zero : {v : ℤ} → SFits w32 v → of_z w32 v ≡ 0 → v ≡ pos 0
is_zero f e = bits_one w32 f (record { sfits = omega arith }) e

pub is_one : {v : ℤ} → SFits w32 v → of_z w32 v ≡ 1 → v ≡ pos 1
is_one f e = bits_one w32 f (record { sfits = omega arith }) e

pub is_minus_one : {v : ℤ} → SFits w32 v → of_z w32 v ≡ 4294967295 → v ≡ negsuc 0
is_minus_one f e = bits_one w32 f (record { sfits = omega arith }) e

odd_next : (n : ℕ) → not (odd (suc n)) ≡ odd n
odd_next n = go (odd n) refl
  where
    go : (t : Bool) → odd n ≡ t → not (odd (suc n)) ≡ t
    go true e = ap not (ne_eqb (suc n % 2) 1 (omega (arith, eqb-true (n % 2) 1 e)))
    go false e = ap not (eq-eqb (suc n % 2) 1 (omega (arith, eqb-false (n % 2) 1 e)))

odd_two : (n : ℕ) → odd (suc (suc n)) ≡ odd n
odd_two n = let e : suc (suc n) % 2 ≡ n % 2 = omega arith in ap (λ (k : ℕ). eqb k 1) e

-- any other value is not new: its low bit is the correction
pub kept : (v : ℤ) → SFits w32 v → (v ≡ pos 0 → ⊥) → (v ≡ pos 1 → ⊥) → (v ≡ negsuc 0 → ⊥) → keep (not (eqb (of_z w32 (rem_z v (pos 2))) 0)) ≡ kind_of v
kept (pos zero) f a b d = absurd (a refl)
kept (pos (suc zero)) f a b d = absurd (b refl)
kept (pos (suc (suc n))) f a b d = ap keep (low_bit (pos (suc (suc n))) f ∙ bit_up (suc (suc n)) ∙ odd_two n) ∙ sym (kind_up n)
kept (negsuc zero) f a b d = absurd (d refl)
kept (negsuc (suc n)) f a b d = ap keep (low_bit (negsuc (suc n)) f ∙ bit_down (suc n) ∙ odd_next n) ∙ sym (kind_down n)

-- a value that is not zero counts for none
pub not_zero : (v : ℤ) → (v ≡ pos 0 → ⊥) → 0 ≡ still_is (kind_of v)
not_zero (pos zero) n = absurd (n refl)
not_zero (pos (suc zero)) n = rw kind_one
not_zero (pos (suc (suc k))) n = rw (kind_up k)
not_zero (negsuc zero) n = rw kind_minus_one
not_zero (negsuc (suc k)) n = rw (kind_down k)
