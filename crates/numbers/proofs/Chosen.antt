-- Laws of the search by windows: what a turn of each pass does, and what a window says of its numbers. Assumes nothing.
use Prim.Native.Nat.{ℕ, suc, ◌+◌, ◌≤◌, ◌<◌}
use mathlib.Core.Path.{◌≡◌, refl, ap, sym, subst, ◌∙◌}
use mathlib.Core.Logic.{⊎_elim}
use mathlib.Core.List.{List, [], ◌∷◌, ◌++◌, append-nil, append_assoc}
use mathlib.Core.Bool.{Bool, true, false, cond}
use native.Mathlib.Omega.{arith}
use native.Mathlib.Numerals.{add-one}
use lib.ListN.{length, take, drop, set, get_or, length-set}
use lib.Seq.{take-suc-set, drop-cons}
use lib.Dec.{eqb, ltb}
use borrow.Author.Tests.{eqb-true, eqb-false, ltb-true, ltb-false}
use Rattle.std.specs.Prelude.{Option, Some, None}
use Rattle.laws.proofs.Choices.{either}
use Rattle.box_rules.specs.Numbers.{count, first_twice, within, between}
use Rattle.numbers.specs.Code.{chosen, TwiceIn}
use Rattle.box_rules.proofs.Counts.{count_other}
use Rattle.box_laws.proofs.Smallest.{within_true, within_told, never_twice, smallest_twice, twice_is, twice_none}

-- ---- a pass that counts

pub between_turn : (ns : List ℕ) (n lo hi : ℕ) {t x : ℕ} {r : List ℕ} → n + between lo hi ns ≡ t → ns ≡ x ∷ r → cond (within lo hi x) (n + 1) n + between lo hi r ≡ t
unfolding between
between_turn ns n lo hi {t} {x} {r} h e =
    let g : n + between lo hi (x ∷ r) ≡ t = (rw e at h) in
    ⊎_elim
    (λ u. let v : n + suc (between lo hi r) ≡ t = (rw u at g) in rw u (omega arith))
    (λ u. let v : n + between lo hi r ≡ t = (rw u at g) in rw u (omega arith))
    (either (within lo hi x))

pub between_end : (ns : List ℕ) (n lo hi : ℕ) {t : ℕ} → n + between lo hi ns ≡ t → ns ≡ [] → n ≡ t
unfolding between
between_end ns n lo hi {t} h e = let g : n + 0 ≡ t = (rw e at h) in omega arith

-- a window of one number
one_wide : (ns : List ℕ) (lo : ℕ) → between lo (lo + 1) ns ≡ count lo ns
unfolding between count
one_wide [] lo = refl
one_wide (x ∷ r) lo = go (within lo (lo + 1) x) refl (eqb x lo) refl (one_wide r lo)
  where
    go : (b : Bool) → within lo (lo + 1) x ≡ b → (d : Bool) → eqb x lo ≡ d → between lo (lo + 1) r ≡ count lo r
        → cond b (suc (between lo (lo + 1) r)) (between lo (lo + 1) r) ≡ cond d (suc (count lo r)) (count lo r)
    go true s true t ih = ap suc ih
    go true s false t ih = let n : (x ≡ lo → ⊥) = eqb-false x lo t in absurd (omega (arith, within_told lo (lo + 1) x s, n))
    go false s true t ih =
        let e : x ≡ lo = eqb-true x lo t in
        let z : ◌≡◌ {A = Bool} true false = sym (within_true lo (lo + 1) x (omega arith) (omega arith)) ∙ s in
        let y : ◌≡◌ {A = ℕ} 0 1 = cc in absurd (omega arith)
    go false s false t ih = ih

-- ---- a pass that finds a number above all

pub past_turn : (all ns : List ℕ) (m : ℕ) → ((q : ℕ) → m ≤ q → count q ns ≡ count q all) → {x m' : ℕ} {r : List ℕ} → ns ≡ x ∷ r → (m ≤ m') × (x < m')
    → (q : ℕ) → m' ≤ q → count q r ≡ count q all
past_turn all ns m h {x} {m'} {r} e l q g =
    sym (count_other x q r (λ z. omega arith)) ∙ ap (count q) (sym e) ∙ h q (omega arith)

pub past_end : (all ns : List ℕ) (m : ℕ) → ((q : ℕ) → m ≤ q → count q ns ≡ count q all) → ns ≡ [] → (q : ℕ) → m ≤ q → count q all ≡ 0
unfolding count
past_end all ns m h e q g = sym (h q g) ∙ ap (count q) e

-- ---- a pass that gathers

chosen_here : (lo hi x : ℕ) (r : List ℕ) → within lo hi x ≡ true → chosen lo hi (x ∷ r) ≡ x ∷ chosen lo hi r
unfolding chosen
chosen_here lo hi x r e = rw e

chosen_other : (lo hi x : ℕ) (r : List ℕ) → within lo hi x ≡ false → chosen lo hi (x ∷ r) ≡ chosen lo hi r
unfolding chosen
chosen_other lo hi x r e = rw e

between_here : (lo hi x : ℕ) (r : List ℕ) → within lo hi x ≡ true → between lo hi (x ∷ r) ≡ suc (between lo hi r)
unfolding between
between_here lo hi x r e = rw e

between_other : (lo hi x : ℕ) (r : List ℕ) → within lo hi x ≡ false → between lo hi (x ∷ r) ≡ between lo hi r
unfolding between
between_other lo hi x r e = rw e

-- k numbers are in hand, and those of the rest are still to come
pub record Gathering (lo hi : ℕ) (all rest held held₀ : List ℕ) (k : ℕ) : Type 0 where
  pub list : take k held ++ chosen lo hi rest ≡ chosen lo hi all
  pub room : k + between lo hi rest ≤ length held
  pub size : length held ≡ length held₀

pub gather_start : (lo hi : ℕ) (all held : List ℕ) → between lo hi all ≤ length held → Gathering lo hi all all held held 0
gather_start lo hi all held h = record { list = refl; room = omega arith; size = refl }

pub gather_room : {lo hi : ℕ} {all rest held held₀ : List ℕ} {k x : ℕ} {r : List ℕ} → Gathering lo hi all rest held held₀ k → rest ≡ x ∷ r → within lo hi x ≡ true → k < length held
gather_room {lo} {hi} {all} {rest} {held} {held₀} {k} {x} {r} g e w =
    omega (arith, g.room, ap (between lo hi) e, between_here lo hi x r w)

pub gather_here : {lo hi : ℕ} {all rest held held₀ : List ℕ} {k x : ℕ} {r : List ℕ} → Gathering lo hi all rest held held₀ k → rest ≡ x ∷ r → within lo hi x ≡ true
    → Gathering lo hi all r (set held k x) held₀ (k + 1)
gather_here {lo} {hi} {all} {rest} {held} {held₀} {k} {x} {r} g e w =
    let l : k < length held = gather_room g e w in
    record {
      list = ap (λ (n : ℕ). take n (set held k x) ++ chosen lo hi r) (add-one k)
          ∙ ap (λ (y : List ℕ). y ++ chosen lo hi r) (take-suc-set held k x l)
          ∙ append_assoc (take k held) (x ∷ []) (chosen lo hi r)
          ∙ ap (λ (y : List ℕ). take k held ++ y) (sym (chosen_here lo hi x r w) ∙ ap (chosen lo hi) (sym e))
          ∙ g.list;
      room = omega (arith, g.room, ap (between lo hi) e, between_here lo hi x r w, length-set held k x);
      size = length-set held k x ∙ g.size;
    }

pub gather_other : {lo hi : ℕ} {all rest held held₀ : List ℕ} {k x : ℕ} {r : List ℕ} → Gathering lo hi all rest held held₀ k → rest ≡ x ∷ r → within lo hi x ≡ false
    → Gathering lo hi all r held held₀ k
gather_other {lo} {hi} {all} {rest} {held} {held₀} {k} {x} {r} g e w = record {
  list = ap (λ (y : List ℕ). take k held ++ y) (sym (chosen_other lo hi x r w) ∙ ap (chosen lo hi) (sym e)) ∙ g.list;
  room = omega (arith, g.room, ap (between lo hi) e, between_other lo hi x r w);
  size = g.size;
}

pub gather_end : {lo hi : ℕ} {all rest held held₀ : List ℕ} {k : ℕ} → Gathering lo hi all rest held held₀ k → rest ≡ [] → (take k held ≡ chosen lo hi all) × (k ≤ length held₀)
unfolding chosen between
gather_end {lo} {hi} {all} {rest} {held} {held₀} {k} g e =
    (sym (append-nil (take k held)) ∙ ap (λ (y : List ℕ). take k held ++ chosen lo hi y) (sym e) ∙ g.list, omega (arith, g.room, g.size))

-- ---- a search in hand

pub drop_next : (ns : List ℕ) (i : ℕ) → i < length ns → drop i ns ≡ get_or ns i 0 ∷ drop (i + 1) ns
drop_next ns i l = drop-cons ns i 0 l ∙ ap (λ (k : ℕ). get_or ns i 0 ∷ drop k ns) (sym (add-one i))

-- ---- what a window says

count_chosen : (lo hi q : ℕ) (ns : List ℕ) → within lo hi q ≡ true → count q (chosen lo hi ns) ≡ count q ns
unfolding chosen count
count_chosen lo hi q [] w = refl
count_chosen lo hi q (x ∷ r) w = go (within lo hi x) refl (eqb x q) refl (count_chosen lo hi q r w)
  where
    go : (b : Bool) → within lo hi x ≡ b → (d : Bool) → eqb x q ≡ d → count q (chosen lo hi r) ≡ count q r
        → count q (cond b (x ∷ chosen lo hi r) (chosen lo hi r)) ≡ cond d (suc (count q r)) (count q r)
    go true s d t ih = rw t (ap (λ (n : ℕ). cond d (suc n) n) ih)
    go false s true t ih =
        let e : x ≡ q = eqb-true x q t in
        let z : ◌≡◌ {A = Bool} true false = sym w ∙ ap (within lo hi) (sym e) ∙ s in
        let y : ◌≡◌ {A = ℕ} 0 1 = cc in absurd (omega arith)
    go false s false t ih = ih

apart_chosen : (lo hi q : ℕ) (ns : List ℕ) → within lo hi q ≡ false → count q (chosen lo hi ns) ≡ 0
unfolding chosen count
apart_chosen lo hi q [] w = refl
apart_chosen lo hi q (x ∷ r) w = go (within lo hi x) refl (eqb x q) refl (apart_chosen lo hi q r w)
  where
    go : (b : Bool) → within lo hi x ≡ b → (d : Bool) → eqb x q ≡ d → count q (chosen lo hi r) ≡ 0 → count q (cond b (x ∷ chosen lo hi r) (chosen lo hi r)) ≡ 0
    go true s true t ih =
        let e : x ≡ q = eqb-true x q t in
        let z : ◌≡◌ {A = Bool} true false = sym s ∙ ap (within lo hi) e ∙ w in
        let y : ◌≡◌ {A = ℕ} 0 1 = cc in absurd (omega arith)
    go true s false t ih = rw t ih
    go false s d t ih = ih

-- the numbers of a window, searched in hand
pub window_twice : (lo hi : ℕ) (ns : List ℕ) (f : Option ℕ) → f ≡ first_twice (chosen lo hi ns) → TwiceIn lo hi ns f
window_twice lo hi ns None e = λ j u v. omega (arith, never_twice (chosen lo hi ns) (sym e) j, count_chosen lo hi j ns (within_true lo hi j u v))
window_twice lo hi ns (Some q) e = go (within lo hi q) refl (smallest_twice (chosen lo hi ns) q (sym e))
  where
    go : (b : Bool) → within lo hi q ≡ b → (1 < count q (chosen lo hi ns)) × ((j : ℕ) → j < q → count j (chosen lo hi ns) ≤ 1)
        → (1 < count q ns) × ((j : ℕ) → lo ≤ j → j < q → count j ns ≤ 1)
    go true w s =
        let i = within_told lo hi q w in
        (omega (arith, s.0, count_chosen lo hi q ns w), λ j u v. omega (arith, s.1 j v, count_chosen lo hi j ns (within_true lo hi j u (omega arith))))
    go false w s = absurd (omega (arith, s.0, apart_chosen lo hi q ns w))

-- a window of one number
pub single_once : (lo : ℕ) (ns : List ℕ) {hi : ℕ} → hi ≡ lo + 1 → between lo hi ns ≤ 1 → TwiceIn lo hi ns None
single_once lo ns {hi} e h j u v =
    let z : j ≡ lo = omega arith in
    let w : between lo (lo + 1) ns ≤ 1 = subst (λ (k : ℕ). between lo k ns ≤ 1) e h in
    rw z (omega (arith, one_wide ns lo))

pub single_twice : (lo : ℕ) (ns : List ℕ) {hi : ℕ} → hi ≡ lo + 1 → 1 < between lo hi ns → TwiceIn lo hi ns (Some lo)
single_twice lo ns {hi} e h =
    let w : 1 < between lo (lo + 1) ns = subst (λ (k : ℕ). 1 < between lo k ns) e h in
    (omega (arith, one_wide ns lo), λ j u v. absurd (omega arith))

-- ---- from window to window

pub windows_next : (ns : List ℕ) (lo hi : ℕ) {f : (Option ℕ)} → ((j : ℕ) → j < lo → count j ns ≤ 1) → TwiceIn lo hi ns f → f ≡ None → (j : ℕ) → j < hi → count j ns ≤ 1
windows_next ns lo hi h t e j l = ⊎_elim
    (λ u. h j (ltb-true j lo u))
    (λ u. subst (TwiceIn lo hi ns) e t j (ltb-false j lo u) l)
    (either (ltb j lo))

pub windows_found : (ns : List ℕ) (lo hi : ℕ) {f : (Option ℕ)} {q : ℕ} → ((j : ℕ) → j < lo → count j ns ≤ 1) → TwiceIn lo hi ns f → f ≡ Some q → Some q ≡ first_twice ns
windows_found ns lo hi {f} {q} h t e =
    let g : (1 < count q ns) × ((j : ℕ) → lo ≤ j → j < q → count j ns ≤ 1) = subst (TwiceIn lo hi ns) e t in
    sym (twice_is ns q g.0 (λ j l. ⊎_elim (λ u. h j (ltb-true j lo u)) (λ u. g.1 j (ltb-false j lo u) l) (either (ltb j lo))))

pub windows_end : (ns : List ℕ) (lo top : ℕ) → ((j : ℕ) → j < lo → count j ns ≤ 1) → top ≤ lo → ((q : ℕ) → top ≤ q → count q ns ≡ 0) → None ≡ first_twice ns
windows_end ns lo top h g z = sym (twice_none ns (λ j. ⊎_elim
    (λ u. h j (ltb-true j lo u))
    (λ u. omega (arith, z j (omega (arith, ltb-false j lo u))))
    (either (ltb j lo))))
