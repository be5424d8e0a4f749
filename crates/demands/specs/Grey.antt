-- D8: a picture without colour comes out without colour, however many planes refined its base. The centre of step 1 (M10) is not named here: transform and merge agree on it.
use Rattle.std.specs.Prelude.{◌≡◌, List, [], ◌∷◌, ℕ, ◌+◌, ◌*◌, ◌<◌, ℤ, pos, get_or}
use Rattle.merge_rules.specs.declared.Setting.{Setting}
use Rattle.merge_rules.specs.declared.Colour.TheVariants.{Transform}
use Rattle.merge_rules.specs.declared.Matrix.TheVariants.{None}
use Rattle.merge_rules.specs.declared.Residual.TheVariants.{Absent}
use Rattle.demands.specs.Two.{Sampled, Merged}
use Rattle.demands.specs.Cases.{setting_at}

-- D8: a sample of a block whose 64 values are 0, after so many planes: a colour difference that tints nothing
pub record Untinted (refinement : ℕ) (difference : ℤ) : Type 0 where
  pub blocks : ℕ
  pub values : List ℤ
  pub quantisers : List ℕ
  pub room : ℕ
  pub samples : List ℤ
  pub handed : Sampled refinement blocks values quantisers room samples
  pub block : ℕ
  pub there : block < blocks
  pub zeros : (i : ℕ) → i < 64 → get_or values (block * 64 + i) (pos 0) ≡ pos 0
  pub y : ℕ
  pub row : y < 8
  pub x : ℕ
  pub column : x < 8
  pub stands : get_or samples (block * 64 + (y * 8 + x)) (pos 0) ≡ difference

-- D8: where Cb and Cr of a pixel are such samples, its three components are one number, whatever its Y and whatever its neighbours are
abbrev pub GreyStaysGrey : Type 0
GreyStaysGrey =
    (s : Setting) (pixels : ℕ) (base : List ℤ) (table : List ℕ) (room : ℕ) (ys : List ℕ) → Merged s pixels base [] table room ys
    → s.components ≡ 3 → s.base_transform ≡ Transform → s.matrix ≡ None → s.residual ≡ Absent
    → (p : ℕ) → p < pixels → Untinted s.rh (get_or base (pixels + p) (pos 0)) → Untinted s.rh (get_or base (pixels + pixels + p) (pos 0))
    → (k : ℕ) → k < 3 → get_or ys (k * pixels + p) 0 ≡ get_or ys p 0

-- D8: by that law, at Rh 4 and Rb 8: a pixel with Cb 2048 and Cr 2048 has as much blue as red, and as much green
abbrev pub GreyShown : Type 0
GreyShown =
    (y : ℤ) (ys : List ℕ) → Merged (setting_at 8 4 3 Transform Absent) 1 (y ∷ pos 2048 ∷ pos 2048 ∷ []) [] [] 3 ys
    → (get_or ys 1 0 ≡ get_or ys 0 0) × (get_or ys 2 0 ≡ get_or ys 0 0)
