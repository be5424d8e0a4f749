-- What is wrong with sequence numbers, from the searches and back to them. Assumes nothing.
use Prim.Native.Nat.{ℕ}
use mathlib.Core.Path.{◌≡◌, refl}
use mathlib.Core.List.{List}
use native.Mathlib.Omega.{arith}
use Rattle.std.specs.Prelude.{Option, Some, None}
use Rattle.box_rules.specs.Numbers.{first_twice, first_missing}
use Rattle.scans.specs.declared.Fault.TheVariants.{Fine, Twice, Missing}
use Rattle.scans.specs.Code.{fault_by, fault_of}

module _ (ns : List ℕ) where
  pub fault_fine : first_twice ns ≡ None → first_missing ns ≡ None → fault_of ns ≡ Fine
  unfolding fault_of
  fault_fine t m = rw (t, m)

  pub fault_twice : {q : ℕ} → first_twice ns ≡ Some q → fault_of ns ≡ Twice q
  unfolding fault_of
  fault_twice t = rw t

  pub fault_missing : {q : ℕ} → first_twice ns ≡ None → first_missing ns ≡ Some q → fault_of ns ≡ Missing q
  unfolding fault_of
  fault_missing t m = rw (t, m)

  pub told_fine : fault_of ns ≡ Fine → (first_twice ns ≡ None) × (first_missing ns ≡ None)
  unfolding fault_of
  told_fine e = go (first_twice ns) refl (first_missing ns) refl e
    where
      go : (t : Option ℕ) → first_twice ns ≡ t → (m : Option ℕ) → first_missing ns ≡ m → fault_by t m ≡ Fine → (first_twice ns ≡ None) × (first_missing ns ≡ None)
      go (Some q) f m g h = let z : ◌≡◌ {A = ℕ} 0 1 = cc in absurd (omega arith)
      go None f (Some q) g h = let z : ◌≡◌ {A = ℕ} 0 1 = cc in absurd (omega arith)
      go None f None g h = (f, g)

  pub told_twice : {q : ℕ} → fault_of ns ≡ Twice q → first_twice ns ≡ Some q
  unfolding fault_of
  told_twice {q} e = go (first_twice ns) refl (first_missing ns) e
    where
      go : (t : Option ℕ) → first_twice ns ≡ t → (m : Option ℕ) → fault_by t m ≡ Twice q → first_twice ns ≡ Some q
      go (Some p) f m h = let z : p ≡ q = cc in rw (← z) f
      go None f (Some p) h = let z : ◌≡◌ {A = ℕ} 0 1 = cc in absurd (omega arith)
      go None f None h = let z : ◌≡◌ {A = ℕ} 0 1 = cc in absurd (omega arith)

  pub told_missing : {q : ℕ} → fault_of ns ≡ Missing q → (first_twice ns ≡ None) × (first_missing ns ≡ Some q)
  unfolding fault_of
  told_missing {q} e = go (first_twice ns) refl (first_missing ns) refl e
    where
      go : (t : Option ℕ) → first_twice ns ≡ t → (m : Option ℕ) → first_missing ns ≡ m → fault_by t m ≡ Missing q → (first_twice ns ≡ None) × (first_missing ns ≡ Some q)
      go (Some p) f m g h = let z : ◌≡◌ {A = ℕ} 0 1 = cc in absurd (omega arith)
      go None f (Some p) g h = let z : p ≡ q = cc in (f, rw (← z) g)
      go None f None g h = let z : ◌≡◌ {A = ℕ} 0 1 = cc in absurd (omega arith)
