-- Laws of `count`, `twice` and `missing`: what a turn of a loop does, what they say of every number, and the pigeonhole. Assumes nothing.
use Prim.Native.Nat.{ℕ, zero, suc, ◌+◌, ◌≤◌}
use mathlib.Core.Path.{◌≡◌, refl, ap, ◌∙◌}
use mathlib.Core.List.{List, [], ◌∷◌, ◌++◌}
use mathlib.Core.Bool.{Bool, true, false, cond}
use mathlib.Core.Logic.{⊎_elim}
use native.Mathlib.Omega.{arith}
use lib.Dec.{eqb}
use borrow.Author.Tests.{eq-eqb, ne_eqb}
use Rattle.std.specs.Prelude.{Option, Some, None}
use Rattle.laws.proofs.Choices.{either}
use Rattle.box_rules.specs.Packets.{Packet}
use Rattle.box_rules.specs.Numbers.{numbers, count, least, first_twice, missing_from}

-- ---- the numbers of a pass

pub numbers_append : (a b : List Packet) → numbers (a ++ b) ≡ numbers a ++ numbers b
unfolding numbers
numbers_append [] b = refl
numbers_append (p ∷ a) b = rw (numbers_append a b)

-- ---- how often a number stands

pub count_turn : (ns : List ℕ) (n q : ℕ) {t x : ℕ} {r : List ℕ} → n + count q ns ≡ t → ns ≡ x ∷ r → cond (eqb x q) (n + 1) n + count q r ≡ t
unfolding count
count_turn ns n q {t} {x} {r} h e =
    let g : n + count q (x ∷ r) ≡ t = (rw e at h) in
    ⊎_elim
    (λ u. let v : n + suc (count q r) ≡ t = (rw u at g) in rw u (omega arith))
    (λ u. let v : n + count q r ≡ t = (rw u at g) in rw u (omega arith))
    (either (eqb x q))

pub count_end : (ns : List ℕ) (n q : ℕ) {t : ℕ} → n + count q ns ≡ t → ns ≡ [] → n ≡ t
unfolding count
count_end ns n q {t} h e = let g : n + 0 ≡ t = (rw e at h) in omega arith

pub count_none : (q : ℕ) → count q [] ≡ 0
unfolding count
count_none q = refl

pub count_here : (x q : ℕ) (r : List ℕ) → x ≡ q → count q (x ∷ r) ≡ suc (count q r)
unfolding count
count_here x q r e = rw (eq-eqb x q e)

pub count_other : (x q : ℕ) (r : List ℕ) → (x ≡ q → ⊥) → count q (x ∷ r) ≡ count q r
unfolding count
count_other x q r n = rw (ne_eqb x q n)

pub count_grows : (x q : ℕ) (r : List ℕ) → count q r ≤ count q (x ∷ r)
unfolding count
count_grows x q r = ⊎_elim (λ e. rw e (omega arith)) (λ e. rw e (omega arith)) (either (eqb x q))

pub count_append : (q : ℕ) (a b : List ℕ) → count q (a ++ b) ≡ count q a + count q b
unfolding count
count_append q [] b = omega arith
count_append q (x ∷ a) b = go (eqb x q) (count_append q a b)
  where
    go : (d : Bool) → count q (a ++ b) ≡ count q a + count q b → cond d (suc (count q (a ++ b))) (count q (a ++ b)) ≡ cond d (suc (count q a)) (count q a) + count q b
    go true e = omega arith
    go false e = e

-- ---- the smallest number that stands twice

least_assoc : (x y z : Option ℕ) → least (least x y) z ≡ least x (least y z)
unfolding least
least_assoc None y z = refl
least_assoc (Some a) None z = refl
least_assoc (Some a) (Some b) None = refl
least_assoc (Some a) (Some b) (Some c) = ap Some (omega arith)

pub least_right : (x : Option ℕ) → x ≡ least x None
unfolding least
least_right None = refl
least_right (Some a) = refl

pub twice_turn : (ns : List ℕ) (w : Option ℕ) {v t : (Option ℕ)} {x : ℕ} {r : List ℕ} → least w (first_twice ns) ≡ t → ns ≡ x ∷ r
    → v ≡ least w (cond (eqb (count x r) 0) None (Some x)) → least v (first_twice r) ≡ t
unfolding first_twice
twice_turn ns w {v} {t} {x} {r} h e f = rw f (least_assoc w (cond (eqb (count x r) 0) None (Some x)) (first_twice r) ∙ (rw e at h))

pub twice_end : (ns : List ℕ) (w : Option ℕ) {t : (Option ℕ)} → least w (first_twice ns) ≡ t → ns ≡ [] → w ≡ t
unfolding first_twice
twice_end ns w h e = least_right w ∙ (rw e at h)

-- ---- the smallest number that is missing

pub missing_done : (ns : List ℕ) (k q : ℕ) → k ≡ 0 → missing_from k q ns ≡ None
unfolding missing_from
missing_done ns zero q h = refl
missing_done ns (suc k) q h = absurd (omega arith)
