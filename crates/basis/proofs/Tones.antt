-- Two curves that give the same tones give the same pixels. Assumes nothing.
use mathlib.Core.Path.{◌≡◌, ap}
use mathlib.Core.List.{List}
use Prim.Native.Nat.{ℕ, ◌≤◌}
use lib.IntN.{ℤ}
use Rattle.merge_rules.specs.Near.{clip, top}
use Rattle.rounding.proofs.Laws.{clip_small}
use Rattle.merge_rules.specs.declared.Curve.{Curve}
use Rattle.merge_rules.specs.Curves.{curved}
use Rattle.merge_rules.specs.declared.Setting.{Setting}
use Rattle.merge_rules.specs.Pixels.{Pixel, single, triple, each}
use Rattle.merge_rules.specs.Steps.{recolour, first_centre, step_one, step_two, step_three, step_four, step_five, basis, merged, by_curve}

-- what is done to numbers up to the top after the clip is done alike
clipped_alike : (f g : ℕ → ℤ) (most : ℕ) → ((x : ℕ) → x ≤ most → f x ≡ g x) → (p : Pixel ℤ) → each f (each (λ v. clip v most) p) ≡ each g (each (λ v. clip v most) p)
unfolding each
clipped_alike f g most same (single a) = ap single (same (clip a most) (clip_small a most))
clipped_alike f g most same (triple a b c) = rw (same (clip a most) (clip_small a most), same (clip b most) (clip_small b most), same (clip c most) (clip_small c most))

module _ (s : Setting) (k : Curve) (tones table : List ℕ)
    (same : (x : ℕ) → x ≤ top s.rh → curved k s.rb s.rh tones x ≡ curved s.curve s.rb s.rh table x) where
  basis_alike : (p : Pixel ℤ) → basis (by_curve k s) tones p ≡ basis s table p
  unfolding basis step_one step_two step_three
  basis_alike p = ap (step_three s) (clipped_alike _ _ (top s.rh) same (recolour s.base_transform (first_centre s.rh) p))

  pub merged_alike : (base residual : Pixel ℤ) → merged (by_curve k s) tones base residual ≡ merged s table base residual
  unfolding merged step_four step_five
  merged_alike base residual = ap (λ b. step_five s b (step_four s residual)) (basis_alike base)
