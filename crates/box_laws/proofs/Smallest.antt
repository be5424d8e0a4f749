-- What `twice` and `missing` say of every number: the places of 6 and 7 are the smallest, and n numbers with none of 1..n missing have none twice. Assumes nothing.
use Prim.Native.Nat.{ℕ, zero, suc, ◌+◌, ◌≤◌, ◌<◌}
use mathlib.Core.Path.{◌≡◌, refl, ap, sym, subst, ◌∙◌}
use mathlib.Core.Logic.{⊎_elim}
use mathlib.Core.List.{List, [], ◌∷◌}
use mathlib.Core.Bool.{Bool, true, false, cond}
use native.Mathlib.Omega.{arith}
use lib.ListN.{length}
use lib.Dec.{eqb, ltb}
use borrow.Author.Tests.{ne_eqb, eqb-true, eqb-false, lt-ltb, le-ltb, ltb-true, ltb-false}
use Rattle.std.specs.Prelude.{Option, Some, None}
use Rattle.laws.proofs.Choices.{either, at_one, at_nothing}
use Rattle.box_rules.specs.Numbers.{count, least, first_twice, missing_from, first_missing, within, between}
use Rattle.box_rules.proofs.Counts.{count_none, count_here, count_other, count_grows}

-- ---- a number that stands twice

-- at or above a number; none is above each
abbrev Above : ℕ → Option ℕ → Type 0
Above q None = Unit
Above q (Some a) = q ≤ a

least_above : (q : ℕ) (x y : Option ℕ) → Above q (least x y) → Above q x × Above q y
unfolding least
least_above q None y b = (tt, b)
least_above q (Some c) None b = (b, tt)
least_above q (Some c) (Some d) b = (omega arith, omega arith)

-- each number below what `twice` gives stands once at most
twice_above : (ns : List ℕ) (q : ℕ) → Above q (first_twice ns) → (j : ℕ) → j < q → count j ns ≤ 1
unfolding first_twice
twice_above [] q a j l = omega (arith, count_none j)
twice_above (x ∷ r) q a j l =
    let s = least_above q (cond (eqb (count x r) 0) None (Some x)) (first_twice r) a in
    ⊎_elim
    (λ t. let e : x ≡ j = eqb-true x j t in here e (eqb (count x r) 0) refl s.0)
    (λ t. rw (count_other x j r (eqb-false x j t)) (twice_above r q s.1 j l))
    (either (eqb x j))
  where
    here : x ≡ j → (b : Bool) → eqb (count x r) 0 ≡ b → Above q (cond b None (Some x)) → count j (x ∷ r) ≤ 1
    here e true t c = let z : count x r ≡ 0 = eqb-true (count x r) 0 t in rw (← e) (omega (arith, count_here x x r refl))
    here e false t c = absurd (omega arith)

-- what `twice` gives does stand twice
twice_stands : (ns : List ℕ) (q : ℕ) → first_twice ns ≡ Some q → 1 < count q ns
unfolding first_twice least
twice_stands [] q e = absurd (at_nothing (sym e))
twice_stands (x ∷ r) q e = go (eqb (count x r) 0) refl (first_twice r) (λ k f. twice_stands r k f) refl e
  where
    here : (count x r ≡ 0 → ⊥) → x ≡ q → 1 < count q (x ∷ r)
    here n u = rw (← u) (omega (arith, count_here x x r refl, n))

    go : (b : Bool) → eqb (count x r) 0 ≡ b → (y : Option ℕ) → ((k : ℕ) → first_twice r ≡ Some k → 1 < count k r) → first_twice r ≡ y
        → least (cond b None (Some x)) y ≡ Some q → 1 < count q (x ∷ r)
    go true t y ih g f = omega (arith, ih q (g ∙ f), count_grows x q r)
    go false t None ih g f = here (eqb-false (count x r) 0 t) (at_one f)
    go false t (Some d) ih g f = pick (ltb d x) refl
      where
        pick : (b : Bool) → ltb d x ≡ b → 1 < count q (x ∷ r)
        pick true s = let z : d ≡ q = omega (arith, at_one f, ltb-true d x s) in omega (arith, ih q (g ∙ ap Some z), count_grows x q r)
        pick false s = here (eqb-false (count x r) 0 t) (omega (arith, at_one f, ltb-false d x s))

pub never_twice : (ns : List ℕ) → first_twice ns ≡ None → (q : ℕ) → count q ns ≤ 1
never_twice ns e q = twice_above ns (suc q) (subst (Above (suc q)) (sym e) tt) q (omega arith)

-- 6: the number stands twice, and it is the smallest such
pub smallest_twice : (ns : List ℕ) (q : ℕ) → first_twice ns ≡ Some q → (1 < count q ns) × ((j : ℕ) → j < q → count j ns ≤ 1)
smallest_twice ns q e = (twice_stands ns q e, twice_above ns q (subst (Above q) (sym e) (self q)))
  where
    self : (q : ℕ) → q ≤ q
    self q = omega arith

pub twice_none : (ns : List ℕ) → ((q : ℕ) → count q ns ≤ 1) → first_twice ns ≡ None
twice_none ns h = go (first_twice ns) refl
  where
    go : (f : Option ℕ) → first_twice ns ≡ f → first_twice ns ≡ None
    go None e = e
    go (Some q) e = absurd (omega (arith, twice_stands ns q e, h q))

pub twice_is : (ns : List ℕ) (q : ℕ) → 1 < count q ns → ((j : ℕ) → j < q → count j ns ≤ 1) → first_twice ns ≡ Some q
twice_is ns q l h = go (first_twice ns) refl
  where
    go : (f : Option ℕ) → first_twice ns ≡ f → first_twice ns ≡ Some q
    go None e = absurd (omega (arith, never_twice ns e q))
    go (Some a) e = pick (ltb a q) refl (ltb q a) refl
      where
        pick : (b : Bool) → ltb a q ≡ b → (d : Bool) → ltb q a ≡ d → first_twice ns ≡ Some q
        pick true s d t = absurd (omega (arith, h a (ltb-true a q s), twice_stands ns a e))
        pick false s true t = absurd (omega (arith, (smallest_twice ns a e).1 q (ltb-true q a t)))
        pick false s false t = e ∙ ap Some (omega (arith, ltb-false a q s, ltb-false q a t))

-- ---- a number that is missing

pub never_missing : (ns : List ℕ) (k a : ℕ) → missing_from k a ns ≡ None → (j : ℕ) → a ≤ j → j < a + k → 1 ≤ count j ns
unfolding missing_from
never_missing ns zero a e j g h = absurd (omega arith)
never_missing ns (suc k) a e j g h =
    ⊎_elim
    (λ t. absurd (at_nothing (rw t at e)))
    (λ t. let u : (count a ns ≡ 0 → ⊥) = eqb-false (count a ns) 0 t in
    here (eqb a j) refl u (λ n. never_missing ns k (suc a) (rw t at e) j (omega arith) (omega arith)))
    (either (eqb (count a ns) 0))
  where
    here : (b : Bool) → eqb a j ≡ b → (count a ns ≡ 0 → ⊥) → ((a ≡ j → ⊥) → 1 ≤ count j ns) → 1 ≤ count j ns
    here true t u f = let n : a ≡ j = eqb-true a j t in rw (← n) (omega arith)
    here false t u f = f (eqb-false a j t)

pub missing_none : (ns : List ℕ) (k a : ℕ) → ((j : ℕ) → a ≤ j → j < a + k → 1 ≤ count j ns) → missing_from k a ns ≡ None
unfolding missing_from
missing_none ns zero a h = refl
missing_none ns (suc k) a h =
    let g : 1 ≤ count a ns = h a (omega arith) (omega arith) in
    rw (ne_eqb (count a ns) 0 (λ e. omega arith)) (missing_none ns k (suc a) (λ j u v. h j (omega arith) (omega arith)))

-- 7: the number is one of those asked for and missing, and it is the smallest such
pub smallest_missing : (ns : List ℕ) (k a q : ℕ) → missing_from k a ns ≡ Some q → (a ≤ q) × (q < a + k) × (count q ns ≡ 0) × ((j : ℕ) → a ≤ j → j < q → 1 ≤ count j ns)
unfolding missing_from
smallest_missing ns zero a q e = absurd (at_nothing (sym e))
smallest_missing ns (suc k) a q e =
    ⊎_elim
    (λ t. let f : a ≡ q = at_one (rw t at e) in
    (omega arith, omega arith, ap (λ (x : ℕ). count x ns) (sym f) ∙ eqb-true (count a ns) 0 t, λ j u v. absurd (omega arith)))
    (λ t. let r = smallest_missing ns k (suc a) q (rw t at e) in
    let n : (count a ns ≡ 0 → ⊥) = eqb-false (count a ns) 0 t in
    (omega arith, omega arith, r.2, λ j u v. here j u v n r.3 (eqb a j) refl))
    (either (eqb (count a ns) 0))
  where
    here : (j : ℕ) → a ≤ j → j < q → (count a ns ≡ 0 → ⊥) → ((i : ℕ) → suc a ≤ i → i < q → 1 ≤ count i ns) → (b : Bool) → eqb a j ≡ b → 1 ≤ count j ns
    here j u v n f true t = let z : a ≡ j = eqb-true a j t in rw (← z) (omega arith)
    here j u v n f false t = let z : (a ≡ j → ⊥) = eqb-false a j t in f j (omega arith) v

pub missing_is : (ns : List ℕ) (k a q : ℕ) → a ≤ q → q < a + k → count q ns ≡ 0 → ((j : ℕ) → a ≤ j → j < q → 1 ≤ count j ns) → missing_from k a ns ≡ Some q
missing_is ns k a q g l z h = go (missing_from k a ns) refl
  where
    go : (f : Option ℕ) → missing_from k a ns ≡ f → missing_from k a ns ≡ Some q
    go None e = absurd (omega (arith, never_missing ns k a e q g l))
    go (Some p) e = pick (smallest_missing ns k a p e) (ltb p q) refl (ltb q p) refl
      where
        pick : (a ≤ p) × (p < a + k) × (count p ns ≡ 0) × ((j : ℕ) → a ≤ j → j < p → 1 ≤ count j ns) → (b : Bool) → ltb p q ≡ b → (d : Bool) → ltb q p ≡ d → missing_from k a ns ≡ Some q
        pick m true s d t = absurd (omega (arith, h p m.0 (ltb-true p q s), m.2))
        pick m false s true t = absurd (omega (arith, m.3 q g (ltb-true q p t)))
        pick m false s false t = e ∙ ap Some (omega (arith, ltb-false p q s, ltb-false q p t))

-- numbers that stand can be passed
pub missing_more_than : (ns : List ℕ) (k a l : ℕ) → ((j : ℕ) → a ≤ j → j < a + k → 1 ≤ count j ns) → missing_from (k + l) a ns ≡ missing_from l (a + k) ns
unfolding missing_from
missing_more_than ns zero a l h = let e : 0 + l ≡ l = omega arith in let f : a + 0 ≡ a = omega arith in rw (e, f)
missing_more_than ns (suc k) a l h =
    let g : 1 ≤ count a ns = h a (omega arith) (omega arith) in
    let e : suc k + l ≡ suc (k + l) = omega arith in
    let f : a + suc k ≡ suc a + k = omega arith in
    rw (e, f, ne_eqb (count a ns) 0 (λ z. omega arith)) (missing_more_than ns k (suc a) l (λ j u v. h j (omega arith) (omega arith)))

-- ---- the pigeonhole

pub within_true : (lo hi x : ℕ) → lo ≤ x → x < hi → within lo hi x ≡ true
unfolding within
within_true lo hi x g h = rw (le-ltb x lo g, lt-ltb x hi h)

pub within_low : (lo hi x : ℕ) → x < lo → within lo hi x ≡ false
unfolding within
within_low lo hi x g = rw (lt-ltb x lo g)

pub within_high : (lo hi x : ℕ) → hi ≤ x → within lo hi x ≡ false
unfolding within
within_high lo hi x g = go (ltb x lo) (le-ltb x hi g)
  where
    go : (b : Bool) → ltb x hi ≡ false → cond b false (ltb x hi) ≡ false
    go true e = refl
    go false e = e

pub within_told : (lo hi x : ℕ) → within lo hi x ≡ true → (lo ≤ x) × (x < hi)
within_told lo hi x h = go (ltb x lo) refl (ltb x hi) refl
  where
    go : (b : Bool) → ltb x lo ≡ b → (d : Bool) → ltb x hi ≡ d → (lo ≤ x) × (x < hi)
    go true s d t = let z : ◌≡◌ {A = Bool} true false = sym h ∙ within_low lo hi x (ltb-true x lo s) in let y : ◌≡◌ {A = ℕ} 0 1 = cc in absurd (omega arith)
    go false s true t = (ltb-false x lo s, ltb-true x hi t)
    go false s false t = let z : ◌≡◌ {A = Bool} true false = sym h ∙ within_high lo hi x (ltb-false x hi t) in let y : ◌≡◌ {A = ℕ} 0 1 = cc in absurd (omega arith)

-- one more number below the end
between_more : (ns : List ℕ) (a k : ℕ) → between a (a + k) ns + count (a + k) ns ≡ between a (a + suc k) ns
unfolding between count
between_more [] a k = refl
between_more (x ∷ r) a k = go (eqb x (a + k)) refl (within a (a + k) x) refl (between_more r a k)
  where
    go : (b : Bool) → eqb x (a + k) ≡ b → (d : Bool) → within a (a + k) x ≡ d → between a (a + k) r + count (a + k) r ≡ between a (a + suc k) r
        → cond d (suc (between a (a + k) r)) (between a (a + k) r) + cond b (suc (count (a + k) r)) (count (a + k) r)
        ≡ cond (within a (a + suc k) x) (suc (between a (a + suc k) r)) (between a (a + suc k) r)
    go true s true t ih = absurd (omega (arith, eqb-true x (a + k) s, within_told a (a + k) x t))
    go true s false t ih = rw (within_true a (a + suc k) x (omega (arith, eqb-true x (a + k) s)) (omega (arith, eqb-true x (a + k) s))) (omega arith)
    go false s true t ih = rw (within_true a (a + suc k) x (within_told a (a + k) x t).0 (omega (arith, within_told a (a + k) x t))) (omega arith)
    go false s false t ih = out (ltb x a) refl (ltb x (a + k)) refl
      where
        out : (b : Bool) → ltb x a ≡ b → (d : Bool) → ltb x (a + k) ≡ d
            → between a (a + k) r + count (a + k) r ≡ cond (within a (a + suc k) x) (suc (between a (a + suc k) r)) (between a (a + suc k) r)
        out true u d v = rw (within_low a (a + suc k) x (ltb-true x a u)) ih
        out false u true v = let z : ◌≡◌ {A = Bool} true false = sym (within_true a (a + k) x (ltb-false x a u) (ltb-true x (a + k) v)) ∙ t in let y : ◌≡◌ {A = ℕ} 0 1 = cc in absurd (omega arith)
        out false u false v = let n : (x ≡ a + k → ⊥) = eqb-false x (a + k) s in rw (within_high a (a + suc k) x (omega (arith, ltb-false x (a + k) v, n))) ih

-- where each of k numbers stands, k of them at least lie there; and one more if one of them stands twice
hits : (ns : List ℕ) (a k : ℕ) → ((j : ℕ) → a ≤ j → j < a + k → 1 ≤ count j ns) → k ≤ between a (a + k) ns
hits ns a zero h = omega arith
hits ns a (suc k) h = omega (arith, between_more ns a k, hits ns a k (λ j u v. h j u (omega arith)), h (a + k) (omega arith) (omega arith))

more_hits : (ns : List ℕ) (a k q : ℕ) → ((j : ℕ) → a ≤ j → j < a + k → 1 ≤ count j ns) → a ≤ q → q < a + k → 1 < count q ns → k < between a (a + k) ns
more_hits ns a zero q h g l t = absurd (omega arith)
more_hits ns a (suc k) q h g l t =
    ⊎_elim
    (λ s. let e : q ≡ a + k = eqb-true q (a + k) s in
    let u : 1 < count (a + k) ns = subst (λ (x : ℕ). 1 < count x ns) e t in
    omega (arith, between_more ns a k, hits ns a k (λ j u v. h j u (omega arith))))
    (λ s. let n : (q ≡ a + k → ⊥) = eqb-false q (a + k) s in
    omega (arith, between_more ns a k, more_hits ns a k q (λ j u v. h j u (omega arith)) g (omega (arith, n)) t, h (a + k) (omega arith) (omega arith)))
    (either (eqb q (a + k)))

-- a number elsewhere is none of them
apart : (ns : List ℕ) (lo hi q : ℕ) → within lo hi q ≡ false → between lo hi ns + count q ns ≤ length ns
unfolding between count
apart [] lo hi q w = omega arith
apart (x ∷ r) lo hi q w = go (eqb x q) refl (within lo hi x) refl (apart r lo hi q w)
  where
    go : (b : Bool) → eqb x q ≡ b → (d : Bool) → within lo hi x ≡ d → between lo hi r + count q r ≤ length r
        → cond d (suc (between lo hi r)) (between lo hi r) + cond b (suc (count q r)) (count q r) ≤ suc (length r)
    go true s true t ih = let e : x ≡ q = eqb-true x q s in let z : ◌≡◌ {A = Bool} true false = sym t ∙ ap (within lo hi) e ∙ w in let y : ◌≡◌ {A = ℕ} 0 1 = cc in absurd (omega arith)
    go true s false t ih = omega arith
    go false s true t ih = omega arith
    go false s false t ih = omega arith

between_all : (ns : List ℕ) (lo hi : ℕ) → between lo hi ns ≤ length ns
unfolding between
between_all [] lo hi = omega arith
between_all (x ∷ r) lo hi = go (within lo hi x) (between_all r lo hi)
  where
    go : (b : Bool) → between lo hi r ≤ length r → cond b (suc (between lo hi r)) (between lo hi r) ≤ suc (length r)
    go true ih = omega arith
    go false ih = omega arith

-- n numbers of which none of 1..n is missing have none twice
pub pigeonhole : (ns : List ℕ) → first_missing ns ≡ None → first_twice ns ≡ None
unfolding first_missing
pigeonhole ns e = twice_none ns (λ q. go q (within 1 (1 + length ns) q) refl)
  where
    go : (q : ℕ) (b : Bool) → within 1 (1 + length ns) q ≡ b → count q ns ≤ 1
    go q false w = omega (arith, apart ns 1 (1 + length ns) q w, hits ns 1 (length ns) (never_missing ns (length ns) 1 e))
    go q true w = let i = within_told 1 (1 + length ns) q w in ⊎_elim
        (λ t. absurd (omega (arith, more_hits ns 1 (length ns) q (never_missing ns (length ns) 1 e) i.0 i.1 (ltb-true 1 (count q ns) t), between_all ns 1 (1 + length ns))))
        (λ t. ltb-false 1 (count q ns) t)
        (either (ltb 1 (count q ns)))
