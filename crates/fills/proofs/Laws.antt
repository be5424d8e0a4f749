-- A pixel of the result from the steps in code, for one component and for three. Assumes nothing.
use borrow.Author.Tests.{eq-eqb, ne_eqb}
use mathlib.Core.Path.{◌≡◌, ap}
use mathlib.Core.List.{List}
use Prim.Native.Nat.{ℕ, ◌+◌, ◌*◌, ◌<◌}
use native.Mathlib.Omega.{arith}
use lib.IntN.{ℤ, pos}
use lib.ListN.{get_or}
use Rattle.merge_rules.specs.declared.Setting.{Setting}
use Rattle.merge_rules.specs.declared.Residual.TheVariants.{Absent, Present}
use Rattle.merge_rules.specs.Pixels.{Pixel, single, triple, each, both}
use Rattle.merge_rules.specs.Steps.{scaled, step_four, added, alone, with_residual, step_five, basis, merged}
use Rattle.pixel.proofs.Laws.{four_single}
use Rattle.merge_rules.specs.Settings.{samples}
use Rattle.merge_rules.specs.Picture.{pixel_at, merged_at}

-- ---- places of a pixel in the planes

pub in_one : (s : Setting) (n p : ℕ) {m : ℕ} → m ≡ samples s n → s.components ≡ 1 → p < n → p < m
in_one s n p e one h = omega (arith, e, ap (λ c. c * n) one)

module _ (s : Setting) (n p : ℕ) {m : ℕ} (e : m ≡ samples s n) (three : s.components ≡ 3) (h : p < n) where
  pub in_first : p < m
  in_first = omega (arith, ap (λ c. c * n) three)

  pub in_second : n + p < m
  in_second = omega (arith, ap (λ c. c * n) three)

  pub in_third : n + n + p < m
  in_third = omega (arith, ap (λ c. c * n) three)

-- ---- a pixel

pixel_one : (c n : ℕ) (xs : List ℤ) (p : ℕ) → c ≡ 1 → pixel_at c n xs p ≡ single (get_or xs p (pos 0))
unfolding pixel_at
pixel_one c n xs p e = rw (eq-eqb c 1 e)

pixel_three : (c n : ℕ) (xs : List ℤ) (p : ℕ) → c ≡ 3 → pixel_at c n xs p ≡ triple (get_or xs p (pos 0)) (get_or xs (n + p) (pos 0)) (get_or xs (n + n + p) (pos 0))
unfolding pixel_at
pixel_three c n xs p e = rw (ne_eqb c 1 (λ q. omega arith))

module _ (s : Setting) (n : ℕ) (base residual : List ℤ) (table : List ℕ) (p : ℕ) where
  module _ (e : s.components ≡ 1) (b : ℤ) (h : single b ≡ basis s table (single (get_or base p (pos 0)))) where
    pub one_alone : s.residual ≡ Absent → single (alone s.rb b) ≡ merged_at s n base residual table p
    unfolding merged_at merged step_five with_residual each
    one_alone q = rw (pixel_one s.components n base p e, ← h, q)

    pub one_added : s.residual ≡ Present → single (added s.rb b (scaled s.rb s.rr (get_or residual p (pos 0)))) ≡ merged_at s n base residual table p
    unfolding merged_at merged step_five with_residual both
    one_added q = rw (pixel_one s.components n base p e, pixel_one s.components n residual p e, ← h, q, four_single)

  module _ (e : s.components ≡ 3) (b : Pixel ℤ) (h : b ≡ basis s table (triple (get_or base p (pos 0)) (get_or base (n + p) (pos 0)) (get_or base (n + n + p) (pos 0)))) where
    pub three_alone : s.residual ≡ Absent → each (alone s.rb) b ≡ merged_at s n base residual table p
    unfolding merged_at merged step_five with_residual
    three_alone q = rw (pixel_three s.components n base p e, ← h, q)

    pub three_added : (r : Pixel ℤ) → r ≡ step_four s (triple (get_or residual p (pos 0)) (get_or residual (n + p) (pos 0)) (get_or residual (n + n + p) (pos 0)))
        → s.residual ≡ Present → both (added s.rb) b r ≡ merged_at s n base residual table p
    unfolding merged_at merged step_five with_residual
    three_added r g q = rw (pixel_three s.components n base p e, pixel_three s.components n residual p e, ← h, ← g, q)
