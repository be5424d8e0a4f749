-- Values that are mapped into another level lie in it. Assumes nothing.
use mathlib.Core.Path.{◌≡◌, refl, ap, ◌∙◌}
use mathlib.Core.Bool.{true}
use mathlib.Core.List.{List, [], ◌∷◌, map}
use Prim.Native.Nat.{ℕ, zero, suc, ◌<◌}
use native.Mathlib.Nat.{le_of_suc-le-suc, not-suc-le-zero}
use lib.IntN.{ℤ, pos}
use lib.ListN.{length, get_or, length-map}
use Rattle.laws.proofs.First.{first_none, all_pass}
use Rattle.std.specs.Prelude.{None}
use Rattle.levels.specs.Level.{in_level, inside, first_outside, is_dc}
use Rattle.levels.specs.declared.Part.{Part}

get_or_mapped : (f : ℤ → ℤ) (values : List ℤ) (i : ℕ) → i < length values → get_or (map f values) i (pos 0) ≡ f (get_or values i (pos 0))
get_or_mapped f [] i h = absurd (not-suc-le-zero h)
get_or_mapped f (x ∷ values) zero h = refl
get_or_mapped f (x ∷ values) (suc i) h = get_or_mapped f values i (le_of_suc-le-suc h)

module _ (part : Part) (from to : ℕ) (f : ℤ → ℤ) (into : (i : ℕ) (x : ℤ) → in_level (is_dc part i) from x ≡ true → in_level (is_dc part i) to (f x) ≡ true) where
  pub mapped_inside : (values : List ℤ) → first_outside part from values ≡ None → first_outside part to (map f values) ≡ None
  unfolding first_outside inside
  mapped_inside values e =
      rw (length-map values f)
      (all_pass (length values) (inside part to (map f values))
      (λ i h. ap (in_level (is_dc part i) to) (get_or_mapped f values i h) ∙ into i (get_or values i (pos 0)) (first_none (length values) (inside part from values) e i h)))
