-- Decimal digits. Assumes nothing.
use Prim.Native.Nat.{ℕ, zero, suc, ◌+◌, ◌/◌, ◌%◌, ◌≤◌, ◌<◌}
use mathlib.Core.Path.{◌≡◌, refl}
use mathlib.Core.List.{[], ◌∷◌, ◌++◌}
use mathlib.Core.Bool.{Bool, true, false}
use mathlib.Core.Logic.{◌⊎◌, inl, inr, ⊎_elim}
use native.Mathlib.Omega.{arith}
use lib.Dec.{ltb}
use borrow.Author.Tests.{lt-ltb, le-ltb, ltb-true, ltb-false}
use Rattle.box_rules.specs.Text.{dec_in, dec}

pub less : (a b : ℕ) → (a < b) ⊎ (b ≤ a)
less a b = go (ltb a b) refl
  where
    go : (t : Bool) → ltb a b ≡ t → (a < b) ⊎ (b ≤ a)
    go true e = inl (ltb-true a b e)
    go false e = inr (ltb-false a b e)

dec_enough : (k j n : ℕ) → n ≤ k → n ≤ j → dec_in k n ≡ dec_in j n
unfolding dec_in
dec_enough zero zero n g h = refl
dec_enough zero (suc j) n g h = rw (lt-ltb n 10 (omega arith))
dec_enough (suc k) zero n g h = rw (lt-ltb n 10 (omega arith))
dec_enough (suc k) (suc j) n g h = ⊎_elim
    (λ t. rw (lt-ltb n 10 t))
    (λ t. rw (le-ltb n 10 t, dec_enough k j (n / 10) (omega arith) (omega arith)))
    (less n 10)

pub dec_small : (n : ℕ) → n < 10 → dec n ≡ (48 + n) ∷ []
unfolding dec dec_in
dec_small zero h = refl
dec_small (suc n) h = rw (lt-ltb (suc n) 10 h)

pub dec_more : (n : ℕ) → 10 ≤ n → dec n ≡ dec (n / 10) ++ ((48 + n % 10) ∷ [])
unfolding dec dec_in
dec_more zero h = absurd (omega arith)
dec_more (suc n) h = rw (le-ltb (suc n) 10 h, dec_enough n (suc n / 10) (suc n / 10) (omega arith) (omega arith))
