-- What the code's answers on tasks are worth, case by case, in the terms that its tests leave. Assumes nothing.
use mathlib.Core.Path.{◌≡◌, refl, sym, ap, ◌∙◌}
use mathlib.Core.Bool.{true, false}
use Rattle.std.specs.Prelude.{Some}
use Prim.Native.Nat.{ℕ, zero, suc, ◌+◌, ◌-◌, ◌*◌, ◌%◌, ◌^◌, ◌≤◌, ◌<◌}
use native.Mathlib.Numerals.{sub-one}
use native.Mathlib.Omega.{arith}
use lib.Bits.{bit_and, and_mask}
use lib.Dec.{leb}
use borrow.Author.Tests.{le-leb, lt-leb}
use Rattle.bit_rules.specs.Source.{Source, stopped, stop}
use Rattle.plane_rules.specs.Task.{ended, over}
use Rattle.plane_rules.specs.AcRead.{meaning}
use Rattle.ac_tasks.proofs.Numbers.{moved_one}

-- ---- what is left of an end run behind a block

pub over_on : (n : ℕ) → (n ≡ 0 → ⊥) → Some (ended (n - 1)) ≡ over (Some (ended n))
over_on zero h = absurd (h refl)
over_on (suc n) h = rw sub-one

-- ---- an end run, in the code's terms

module _ (left r e : ℕ) (h : r < 15) where
  pub run_fits : 1 * 2 ^ r % 18446744073709551616 + e ≤ left → leb (2 ^ r + e) left ≡ true
  run_fits l = le-leb (2 ^ r + e) left (rw (moved_one r h) at l)

  pub run_past : left < 1 * 2 ^ r % 18446744073709551616 + e → leb (2 ^ r + e) left ≡ false
  run_past l = lt-leb (2 ^ r + e) left (rw (moved_one r h) at l)

-- ---- what a code means

pub low_bits : (v s : ℕ) → bit_and v 15 ≡ s → v % 16 ≡ s
low_bits v s e = sym (and_mask v 4) ∙ e

pub low_one : (v : ℕ) → (bit_and v 15 ≡ 0 → ⊥) → bit_and v 15 ≤ 1 → v % 16 ≡ 1
low_one v z l = low_bits v 1 (omega arith)

pub unused : (v left r : ℕ) (s : Source) → 1 < bit_and v 15 → stopped (stop 15 s.last) ≡ meaning left r (v % 16) s
unfolding meaning
unused v left r s h =
    let m : bit_and v 15 ≡ v % 16 = and_mask v 4 in
    let e : v % 16 ≡ suc (suc (v % 16 - 2)) = omega arith in
    ap (λ (k : ℕ). meaning left r k s) (sym e)
