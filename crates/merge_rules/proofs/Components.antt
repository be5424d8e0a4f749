-- One component or three. Assumes nothing.
use borrow.Author.Tests.{eqb-true}
use mathlib.Core.Path.{◌≡◌, refl, sym, ap, ◌∙◌}
use mathlib.Core.Logic.{◌⊎◌, inl, inr}
use mathlib.Core.Bool.{Bool, true, false, cond}
use Prim.Native.Nat.{ℕ}
use lib.Dec.{eqb}
use Rattle.merge_rules.specs.Settings.{one_or_three}

pub one_or_three_lem : (c : ℕ) → one_or_three c ≡ true → (c ≡ 1) ⊎ (c ≡ 3)
one_or_three_lem c e = by (eqb c 1) refl
  where
    by : (t : Bool) → eqb c 1 ≡ t → (c ≡ 1) ⊎ (c ≡ 3)
    by true q = inl (eqb-true c 1 q)
    by false q = inr (eqb-true c 3 (sym (ap (λ t. cond t true (eqb c 3)) q) ∙ e))
