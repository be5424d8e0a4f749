-- The place of a value among a good table's. Assumes nothing.
use mathlib.Core.Path.{◌≡◌, refl, sym, ap, ◌∙◌}
use mathlib.Core.List.{List, [], ◌∷◌}
use mathlib.Core.Bool.{Bool, true, false, cond, not}
use Prim.Native.Nat.{ℕ, zero, suc, ◌<◌}
use native.Mathlib.Omega.{arith}
use lib.Dec.{eqb}
use lib.ListN.{length, get_or}
use borrow.Author.Tests.{eq-eqb, ne_eqb}
use Rattle.laws.specs.First.{first_fail}
use Rattle.std.specs.Prelude.{Some, None}
use Rattle.laws.proofs.First.{first_found, all_pass}
use Rattle.bit_rules.specs.Table.{holds, distinct}
use Rattle.bit_rules.specs.Write.{place_of}

holds_at : (v : ℕ) (vs : List ℕ) (j : ℕ) → j < length vs → get_or vs j 0 ≡ v → holds v vs ≡ true
unfolding holds
holds_at v [] j h e = absurd (omega arith)
holds_at v (x ∷ vs) zero h e = rw (eq-eqb x v e)
holds_at v (x ∷ vs) (suc j) h e = go (eqb x v) (holds_at v vs j (omega arith) e)
  where
    go : (b : Bool) → holds v vs ≡ true → cond b true (holds v vs) ≡ true
    go true k = refl
    go false k = k

pub apart : (vs : List ℕ) (i j : ℕ) → distinct vs ≡ true → i < j → j < length vs → get_or vs i 0 ≡ get_or vs j 0 → ⊥
unfolding distinct
apart [] i j d l h e = omega arith
apart (v ∷ vs) i zero d l h e = omega arith
apart (v ∷ vs) zero (suc j) d l h e =
    let z : ◌≡◌ {A = Bool} false true = rw (holds_at v vs j (omega arith) (sym e)) at d in
    let y : ◌≡◌ {A = ℕ} 0 1 = cc in omega arith
apart (v ∷ vs) (suc i) (suc j) d l h e = go (holds v vs) d (λ k. apart vs i j k (omega arith) (omega arith) e)
  where
    go : (b : Bool) → cond b false (distinct vs) ≡ true → (distinct vs ≡ true → ⊥) → ⊥
    go true k f = let y : ◌≡◌ {A = ℕ} 0 1 = cc in omega arith
    go false k f = f k

abbrev pub other : List ℕ → ℕ → ℕ → Bool
other values v i = not (eqb (get_or values i 0) v)

none_before : (vs : List ℕ) (k v : ℕ) → distinct vs ≡ true → k < length vs → v ≡ get_or vs k 0 → first_fail k (other vs v) ≡ None
none_before vs k v d h e = all_pass k (other vs v) (λ i l. ap not (ne_eqb (get_or vs i 0) v (λ q. apart vs i k d l h (q ∙ e))))

pub first_there : (vs : List ℕ) (k v n : ℕ) → distinct vs ≡ true → k < length vs → v ≡ get_or vs k 0 → k < n → first_fail n (other vs v) ≡ Some k
first_there vs k v n d h e l = first_found (other vs v) n k l (none_before vs k v d h e) (ap not (eq-eqb (get_or vs k 0) v (sym e)))

-- the place of the value at a place
pub place_at : (vs : List ℕ) (k v : ℕ) → distinct vs ≡ true → k < length vs → v ≡ get_or vs k 0 → place_of v vs ≡ Some k
unfolding place_of
place_at vs k v d h e = first_there vs k v (length vs) d h e h
