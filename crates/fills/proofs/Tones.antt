-- The picture by another curve with the same tones, and what the loops ask where a table takes the place of the lent one. Assumes nothing.
use mathlib.Core.Path.{◌≡◌, sym, ap, subst, ◌∙◌, fun_ext}
use mathlib.Core.List.{List}
use Prim.Native.Nat.{ℕ, ◌+◌, ◌^◌, ◌≤◌}
use native.Mathlib.Omega.{arith}
use lib.IntN.{ℤ}
use lib.ListN.{length}
use Rattle.merge_rules.specs.Near.{top}
use Rattle.rounding.proofs.Laws.{top_above}
use Rattle.merge_rules.specs.declared.Curve.{Curve}
use Rattle.merge_rules.specs.declared.Curve.TheVariants.{Straight, Table, Srgb}
use Rattle.merge_rules.specs.Srgb.{srgb}
use Rattle.merge_rules.specs.Curves.{curved, entries}
use Rattle.curves.specs.Code.{Tones}
use Rattle.merge_rules.specs.declared.Setting.{Setting}
use Rattle.merge_rules.specs.Steps.{by_curve}
use Rattle.basis.proofs.Tones.{merged_alike}
use Rattle.settings.specs.Code.{Passed, Lending}
use Rattle.settings.proofs.Laws.{lending}
use Rattle.merge_rules.specs.Picture.{pixel_at, merged_at, merged_picture, planes}

pub straight_other : Straight ≡ Srgb → ⊥
straight_other q = let z : ◌≡◌ {A = ℕ} 0 1 = cc in omega arith

pub table_other : Table ≡ Srgb → ⊥
table_other q = let z : ◌≡◌ {A = ℕ} 0 1 = cc in omega arith

module _ {s : Setting} {n : ℕ} {base residual : List ℤ} {table : List ℕ} (h : Passed s n base residual table) where
  -- a curve with the same tones gives the same picture
  picture_alike : (k : Curve) (tones : List ℕ) → ((x : ℕ) → x ≤ top s.rh → curved k s.rb s.rh tones x ≡ curved s.curve s.rb s.rh table x)
      → merged_picture (by_curve k s) n base residual tones ≡ merged_picture s n base residual table
  unfolding merged_picture merged_at
  picture_alike k tones same =
      ap (planes s.components n)
      (fun_ext (λ p. merged_alike s k tones table same (pixel_at s.components n base p) (pixel_at s.components n residual p)))

  -- the lent table itself, or none for the straight curve
  pub lent_there : {k : Curve} → s.curve ≡ k → (k ≡ Srgb → ⊥) → Lending s n base residual table
  lent_there e other = lending h s.curve table (record { long = omega (arith, h.table_long); plain = λ q. absurd (other (sym e ∙ q)); itself = λ q. absurd (other (sym e ∙ q)) })

  -- the inverse sRGB table
  module _ (e : s.curve ≡ Srgb) (tones : List ℕ) (q : tones ≡ srgb) where
    pub srgb_there : Lending s n base residual tones
    unfolding entries
    srgb_there = lending h s.curve tones (record { long = subst (λ k. entries k s.rh ≤ length tones) (sym e) (omega arith); plain = h.plain; itself = λ _. q })

    pub srgb_alike : merged_picture s n base residual tones ≡ merged_picture s n base residual table
    unfolding curved
    srgb_alike = picture_alike s.curve tones (λ x _. ap (λ k. curved k s.rb s.rh tones x) e ∙ ap (λ k. curved k s.rb s.rh table x) (sym e))

  -- the straight curve as a table
  module _ (e : s.curve ≡ Straight) (tones : List ℕ) (made : Tones s.rb s.rh (2 ^ (8 + s.rh)) tones) (long : 2 ^ (8 + s.rh) ≤ length tones) where
    pub tones_there : Lending (by_curve Table s) n base residual tones
    unfolding entries
    tones_there = lending h Table tones (record { long = long; plain = λ q. absurd (table_other q); itself = λ q. absurd (table_other q) })

    pub tones_alike : merged_picture (by_curve Table s) n base residual tones ≡ merged_picture s n base residual table
    unfolding curved
    tones_alike =
        picture_alike Table tones
        (λ x below. made.at x (omega (arith, top_above s.rh (omega (arith, h.ranged.rh_small)))) ∙ ap (λ k. curved k s.rb s.rh table x) (sym e))
