-- What a value is more than twice its half, by the code's remainder. Assumes nothing.
use mathlib.Core.Path.{◌≡◌, refl, sym, ap, ◌∙◌}
use mathlib.Core.Bool.{Bool, true, false, not}
use Prim.Native.Nat.{ℕ, suc, ◌%◌}
use native.Mathlib.Omega.{arith}
use lib.Dec.{eqb}
use lib.IntN.{ℤ, pos, negsuc, neg_ℤ}
use lib.Signed.{rem_z, mag_rem}
use mir.Syntax.{w32}
use mir.Val.{SFits, of_z}
use mir.ValLaws.{sfits_le}
use borrow.Author.Tests.{eqb-true, eqb-false, eq-eqb, ne_eqb}
use Rattle.laws.proofs.Integers.{bits_zero, abs_neg}
use Rattle.plane_rules.specs.Dc.{dc_bit}
use Rattle.plane_rules.proofs.Halves.{bit_up, bit_down}

-- a remainder that is not 0 is the low bit
odd_up : (n : ℕ) → not (eqb (n % 2) 0) ≡ eqb (n % 2) 1
odd_up n = go (eqb (n % 2) 1) refl
  where
    go : (t : Bool) → eqb (n % 2) 1 ≡ t → not (eqb (n % 2) 0) ≡ t
    go true e = ap not (ne_eqb (n % 2) 0 (omega (arith, eqb-true (n % 2) 1 e)))
    go false e = ap not (eq-eqb (n % 2) 0 (omega (arith, eqb-false (n % 2) 1 e)))

odd_down : (n : ℕ) → not (eqb (suc n % 2) 0) ≡ not (eqb (n % 2) 1)
odd_down n = go (eqb (n % 2) 1) refl
  where
    go : (t : Bool) → eqb (n % 2) 1 ≡ t → not (eqb (suc n % 2) 0) ≡ not t
    go true e = ap not (eq-eqb (suc n % 2) 0 (omega (arith, eqb-true (n % 2) 1 e)))
    go false e = ap not (ne_eqb (suc n % 2) 0 (omega (arith, eqb-false (n % 2) 1 e)))

pub rest_fits : {v : ℤ} → SFits w32 v → SFits w32 (rem_z v (pos 2))
rest_fits {v} f = sfits_le (mag_rem v (pos 2)) f

pub low_bit : (v : ℤ) → SFits w32 v → not (eqb (of_z w32 (rem_z v (pos 2))) 0) ≡ dc_bit v
low_bit (pos n) f = ap not (bits_zero w32 (pos (n % 2)) (rest_fits f)) ∙ odd_up n ∙ sym (bit_up n)
low_bit (negsuc n) f =
    ap not (bits_zero w32 (neg_ℤ (pos (suc n % 2))) (rest_fits f) ∙ ap (λ (k : ℕ). eqb k 0) (abs_neg (pos (suc n % 2)))) ∙ odd_down n ∙ sym (bit_down n)
