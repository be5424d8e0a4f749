-- A level's range as the code tests it, and what a value inside it is worth to a caller. Assumes nothing.
use mathlib.Core.Path.{◌≡◌, refl, sym, subst, ◌∙◌}
use mathlib.Core.Bool.{Bool, true, false, ◌&&◌}
use mathlib.Core.List.{List}
use mathlib.Core.Logic.{⊎_elim}
use Prim.Native.Nat.{ℕ, zero, suc, ◌+◌, ◌^◌, ◌<◌, ◌≤◌}
use native.Mathlib.Omega.{arith}
use borrow.Author.Tests.{ltb-true, lt-ltb, le-ltb, leb-true, leb-false}
use lib.Dec.{T, leb, ltb, leb→le, leb-suc-suc}
use lib.IntN.{ℤ, pos, negsuc, neg_ℤ, nat_abs}
use lib.ListN.{length, get_or, get_or-eq_default}
use lib.Pow.{pow_pos}
use lib.Signed.{mag, le_z, lt_z}
use Rattle.laws.proofs.Integers.{split}
use Rattle.laws.proofs.Lists.{each}
use Rattle.laws.proofs.First.{first_none, first_more, all_pass}
use Rattle.laws.specs.First.{first_fail}
use Rattle.std.specs.Prelude.{None}
use Rattle.levels.specs.Level.{dc_in, in_level, inside, first_outside, is_dc, between}
use Rattle.levels.specs.declared.Part.{Part}

pub half_range : (level : ℕ) → level ≤ 4 → 2 ^ (11 + level) ≤ 32768
half_range level h = leb→le (2 ^ (11 + level)) 32768 (each 5 (λ k. leb (2 ^ (11 + k)) 32768) tt level (omega arith))

-- ---- the code's three tests, r being the number above the range

by_mag : (level : ℕ) (v : ℤ) → ltb (mag v) (2 ^ (11 + level)) ≡ dc_in level v
by_mag level (pos n) = refl
by_mag level (negsuc n) = refl

module _ (level : ℕ) (v : ℤ) where
  pub too_high : (dc : Bool) → le_z (pos (2 ^ (11 + level))) v ≡ true → in_level dc level v ≡ false
  unfolding in_level
  too_high dc t = go dc v t
    where
      go : (dc : Bool) (v : ℤ) → le_z (pos (2 ^ (11 + level))) v ≡ true → in_level dc level v ≡ false
      go true (pos n) t = le-ltb n (2 ^ (11 + level)) (leb-true (2 ^ (11 + level)) n t)
      go false (pos n) t = le-ltb n (2 ^ (11 + level)) (leb-true (2 ^ (11 + level)) n t)
      go true (negsuc n) t = absurd (subst T (sym t) tt)
      go false (negsuc n) t = absurd (subst T (sym t) tt)

  module _ (below : le_z (pos (2 ^ (11 + level))) v ≡ false) where
    pub dc_test : le_z (neg_ℤ (pos (2 ^ (11 + level)))) v ≡ in_level true level v
    unfolding in_level
    dc_test = go (2 ^ (11 + level)) v (pow_pos (11 + level)) below ∙ by_mag level v
      where
        go : (r : ℕ) (v : ℤ) → 0 < r → le_z (pos r) v ≡ false → le_z (neg_ℤ (pos r)) v ≡ ltb (mag v) r
        go zero v p b = absurd (omega arith)
        go (suc m) (pos n) p b = sym (lt-ltb n (suc m) (leb-false (suc m) n b))
        go (suc m) (negsuc n) p b = sym (leb-suc-suc n m)

    pub ac_test : lt_z (neg_ℤ (pos (2 ^ (11 + level)))) v ≡ in_level false level v
    unfolding in_level
    ac_test = go (2 ^ (11 + level)) v (pow_pos (11 + level)) below
      where
        go : (r : ℕ) (v : ℤ) → 0 < r → le_z (pos r) v ≡ false → lt_z (neg_ℤ (pos r)) v ≡ ltb (nat_abs v) r
        go zero v p b = absurd (omega arith)
        go (suc m) (pos n) p b = sym (lt-ltb n (suc m) (leb-false (suc m) n b))
        go (suc m) (negsuc n) p b = sym (leb-suc-suc (suc n) m)

-- ---- all values at once: between the AC range's bounds is inside every range

and_left : (a b : Bool) → (a && b) ≡ true → a ≡ true
and_left true b e = refl
and_left false b e = e

and_right : (a b : Bool) → (a && b) ≡ true → b ≡ true
and_right true b e = e
and_right false b e = absurd (subst T (sym e) tt)

-- a turn of the loop: the flag still says what it said, and of one value more
pub between_turn : (low high : ℤ) (values : List ℤ) (i : ℕ) (good : Bool)
    → (good ≡ true → first_fail i (between low high values) ≡ None)
    → (good && lt_z low (get_or values i (pos 0)) && lt_z (get_or values i (pos 0)) high) ≡ true
    → first_fail (i + 1) (between low high values) ≡ None
unfolding between
between_turn low high values i good before e =
    let l = lt_z low (get_or values i (pos 0)) in
    let h = lt_z (get_or values i (pos 0)) high in
    first_more (between low high values) i (before (and_left good l (and_left (good && l) h e)))
    (rw (and_right good l (and_left (good && l) h e), and_right (good && l) h e))

module _ (level : ℕ) (v : ℤ) (above : lt_z (neg_ℤ (pos (2 ^ (11 + level)))) v ≡ true) (below : lt_z v (pos (2 ^ (11 + level))) ≡ true) where
  pub in_all : (dc : Bool) → in_level dc level v ≡ true
  unfolding in_level
  in_all false = go (2 ^ (11 + level)) v (pow_pos (11 + level)) above below
    where
      go : (r : ℕ) (v : ℤ) → 0 < r → lt_z (neg_ℤ (pos r)) v ≡ true → lt_z v (pos r) ≡ true → ltb (nat_abs v) r ≡ true
      go zero v p a b = absurd (omega arith)
      go (suc m) (pos n) p a b = b
      go (suc m) (negsuc n) p a b = leb-suc-suc (suc n) m ∙ a
  in_all true = sym (by_mag level v) ∙ go (2 ^ (11 + level)) v (pow_pos (11 + level)) above below
    where
      go : (r : ℕ) (v : ℤ) → 0 < r → lt_z (neg_ℤ (pos r)) v ≡ true → lt_z v (pos r) ≡ true → ltb (mag v) r ≡ true
      go zero v p a b = absurd (omega arith)
      go (suc m) (pos n) p a b = b
      go (suc m) (negsuc n) p a b = lt-ltb n (suc m) (omega (arith, ltb-true (suc n) (suc m) (leb-suc-suc (suc n) m ∙ a)))

-- what the test of all values says of every part
pub between_inside : (part : Part) (level : ℕ) (values : List ℤ)
    → first_fail (length values) (between (neg_ℤ (pos (2 ^ (11 + level)))) (pos (2 ^ (11 + level))) values) ≡ None
    → first_outside part level values ≡ None
unfolding first_outside inside between
between_inside part level values e =
    all_pass (length values) (inside part level values)
    (λ k m.
    let t = first_none (length values) (between (neg_ℤ (pos (2 ^ (11 + level)))) (pos (2 ^ (11 + level))) values) e k m in
    let l = lt_z (neg_ℤ (pos (2 ^ (11 + level)))) (get_or values k (pos 0)) in
    let h = lt_z (get_or values k (pos 0)) (pos (2 ^ (11 + level))) in
    in_all level (get_or values k (pos 0)) (and_left l h t) (and_right l h t) (is_dc part k))

-- the last of five levels
pub fourth : (level : ℕ) → level ≤ 4 → (level ≡ 0 → ⊥) → (level ≡ 1 → ⊥) → (level ≡ 2 → ⊥) → (level ≡ 3 → ⊥) → level ≡ 4
fourth level h a b c d = omega arith

-- ---- for callers

-- a value in its range is small
in_small : (level : ℕ) (dc : Bool) (v : ℤ) → level ≤ 4 → in_level dc level v ≡ true → nat_abs v ≤ 2 ^ (11 + level)
unfolding in_level
in_small level true (pos n) h e = omega (arith, ltb-true n (2 ^ (11 + level)) e)
in_small level true (negsuc n) h e = omega (arith, ltb-true n (2 ^ (11 + level)) e)
in_small level false v h e = omega (arith, ltb-true (nat_abs v) (2 ^ (11 + level)) e)

module _ (part : Part) (level : ℕ) (values : List ℤ) (h : level ≤ 4) (none : first_outside part level values ≡ None) where
  -- at each index the value is in its range
  pub all_inside : (k : ℕ) → k < length values → in_level (is_dc part k) level (get_or values k (pos 0)) ≡ true
  unfolding first_outside inside
  all_inside k l = first_none (length values) (inside part level values) none k l

  -- and so is of a magnitude that any caller can use (past the end it is 0)
  pub all_small : (k : ℕ) → nat_abs (get_or values k (pos 0)) ≤ 32768
  all_small k =
      ⊎_elim (λ (l : k < length values). omega (arith, in_small level (is_dc part k) (get_or values k (pos 0)) h (all_inside k l), half_range level h))
      (λ (l : length values ≤ k). rw (get_or-eq_default values (pos 0) l) (omega arith))
      (split k (length values))
