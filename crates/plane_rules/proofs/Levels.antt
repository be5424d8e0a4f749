-- Levels below the full values, for any division that halves again and again; planes one after another. Assumes nothing.
use mathlib.Core.Path.{◌≡◌, refl, ap, ap₂, fun_ext, ◌∙◌}
use mathlib.Core.Bool.{true}
use mathlib.Core.List.{List, [], ◌∷◌, map, map-map}
use Rattle.std.specs.Prelude.{Option, Some, None}
use Prim.Native.Nat.{ℕ, zero, suc, ◌+◌, ◌-◌, ◌*◌, ◌/◌, ◌^◌, ◌≤◌, ◌<◌}
use native.Mathlib.Nat.{pow-suc}
use native.Mathlib.Omega.{arith}
use lib.Dec.{ltb}
use lib.IntN.{ℤ}
use borrow.Author.Tests.{ltb-true, lt-ltb}
use Rattle.levels.specs.Level.{in_level, is_dc, first_outside}
use Rattle.levels.specs.declared.Part.{Part}
use Rattle.levels.proofs.Mapped.{mapped_inside}
use Rattle.plane_rules.specs.Levels.{at_level, climb}

-- half of a magnitude of the level above
pub half_in : (level n : ℕ) → ltb n (2 ^ (11 + suc level)) ≡ true → ltb (n / 2) (2 ^ (11 + level)) ≡ true
half_in level n e =
    let s : 11 + suc level ≡ suc (11 + level) = omega arith in
    let p : 2 ^ (11 + suc level) ≡ 2 ^ (11 + level) * 2 = rw s (pow-suc 2 (11 + level)) in
    lt-ltb (n / 2) (2 ^ (11 + level)) (omega (arith, ltb-true n (2 ^ (11 + suc level)) e))

map_same : (f : ℤ → ℤ) → ((x : ℤ) → f x ≡ x) → (values : List ℤ) → map f values ≡ values
map_same f h [] = refl
map_same f h (x ∷ values) = ap₂ (λ (y : ℤ) (ys : List ℤ). y ∷ ys) (h x) (map_same f h values)

-- a half, and division by 2^m
pub record Halving (part : Part) (half : ℤ → ℤ) (divide : ℕ → ℤ → ℤ) : Type 0 where
  pub whole : (x : ℤ) → divide 0 x ≡ x
  pub again : (m : ℕ) (x : ℤ) → half (divide m x) ≡ divide (suc m) x
  pub lower : (level i : ℕ) (x : ℤ) → in_level (is_dc part i) (suc level) x ≡ true → in_level (is_dc part i) level (half x) ≡ true

module _ {part : Part} {half : ℤ → ℤ} {divide : ℕ → ℤ → ℤ} (a : Halving part half divide) where
  -- the halves lie in the level below
  pub halves_inside : (level : ℕ) (values : List ℤ) → 1 ≤ level → first_outside part level values ≡ None → first_outside part (level - 1) (map half values) ≡ None
  halves_inside level values h e =
      let q : suc (level - 1) ≡ level = omega arith in
      mapped_inside part (suc (level - 1)) (level - 1) half (a.lower (level - 1)) values (rw q e)

  deep : (m level i : ℕ) (x : ℤ) → in_level (is_dc part i) (level + m) x ≡ true → in_level (is_dc part i) level (divide m x) ≡ true
  deep zero level i x e = let z : level + 0 ≡ level = omega arith in rw (a.whole x) (rw z at e)
  deep (suc m) level i x e =
      let z : level + suc m ≡ suc level + m = omega arith in
      rw (a.again m x) at (a.lower level i (divide m x) (deep m (suc level) i x (rw z at e)))

  module _ (k : ℕ) (full : List ℤ) where
    pub level_full : at_level divide k full k ≡ full
    level_full = let e : k - k ≡ 0 = omega arith in rw e (map_same (divide 0) a.whole full)

    pub level_half : (j : ℕ) → j < k → map half (at_level divide k full (suc j)) ≡ at_level divide k full j
    level_half j l =
        let e : suc (k - suc j) ≡ k - j = omega arith in
        map-map half (divide (k - suc j)) full ∙ ap (λ (f : ℤ → ℤ). map f full) (fun_ext (a.again (k - suc j))) ∙ ap (λ (m : ℕ). map (divide m) full) e

    pub level_inside : first_outside part k full ≡ None → (j : ℕ) → j ≤ k → first_outside part j (at_level divide k full j) ≡ None
    level_inside range j l =
        let e : j + (k - j) ≡ k = omega arith in
        mapped_inside part k j (divide (k - j)) (λ i x q. deep (k - j) j i x (rw e q)) full range

-- if each plane takes its level to the next, then j planes take the base to level j
pub climbed : {A : Type 0} (plane : ℕ → A → Option A) (level : ℕ → A) (k : ℕ) → ((j : ℕ) → j < k → plane (suc j) (level j) ≡ Some (level (suc j)))
    → (j : ℕ) → j ≤ k → climb plane j (level 0) ≡ Some (level j)
unfolding climb
climbed plane level k h zero l = refl
climbed plane level k h (suc j) l = rw (climbed plane level k h j (omega arith)) (h j l)
