-- C5, C6, C7: the merge's setting as numbers, an unknown one being 20; the matrix as a lent list.
use Rattle.std.specs.Prelude.{Bool, cond, List, [], ◌∷◌, ℕ, eqb, ltb, ℤ, pos, length, get_or, replicate}
use Rattle.laws.specs.Index.{every}
use Rattle.answers.specs.Verdict.{Verdict, need}
use Rattle.merge_rules.specs.declared.Curve.{Curve}
use Rattle.merge_rules.specs.declared.Curve.TheVariants.{Straight, Table, Srgb}
use Rattle.merge_rules.specs.declared.Colour.{Colour}
use Rattle.merge_rules.specs.declared.Colour.TheVariants.{Identity, Transform}
use Rattle.merge_rules.specs.declared.Matrix.{Matrix}
use Rattle.merge_rules.specs.declared.Matrix.TheVariants.{None, On}
use Rattle.merge_rules.specs.declared.Residual.{Residual}
use Rattle.merge_rules.specs.declared.Residual.TheVariants.{Absent, Present}
use Rattle.merge_rules.specs.declared.Setting.{Setting}
use Rattle.merge_rules.specs.Settings.{in_ranges, plain, srgb_allowed}
use Rattle.merge_rules.specs.Picture.{merge}

-- C5: 0 identity, 1 the transform
unfoldable pub colour_of : ℕ → Colour
colour_of n = cond (eqb n 1) Transform Identity

-- C5: 0 straight, 1 the lent table, 2 inverse sRGB
unfoldable pub curve_of : ℕ → Curve
curve_of n = cond (eqb n 1) Table (cond (eqb n 2) Srgb Straight)

-- C5: 0 absent, 1 present
unfoldable pub matrix_of : ℕ → Matrix
matrix_of n = cond (eqb n 1) On None

-- C5: 0 absent, 1 present
unfoldable pub residual_of : ℕ → Residual
residual_of n = cond (eqb n 1) Present Absent

-- C6: the numbers that name something
unfoldable pub known : ℕ → ℕ → ℕ → ℕ → ℕ → Bool
known base curve matrix residual transform = every (ltb base 2 ∷ ltb curve 3 ∷ ltb matrix 2 ∷ ltb residual 2 ∷ ltb transform 2 ∷ [])

-- C7: the matrix has 9 numbers when on and is empty otherwise, else 21
unfoldable pub matrix_count : Matrix → ℕ
matrix_count On = 9
matrix_count None = 0

-- C7: the weights of a lent matrix, row by row; zeros where fewer than nine are lent
unfoldable pub weights_of : List ℤ → List ℤ
weights_of matrix =
    cond (ltb (length matrix) 9) (replicate 9 (pos 0))
    (get_or matrix 0 (pos 0) ∷ get_or matrix 1 (pos 0) ∷ get_or matrix 2 (pos 0) ∷ get_or matrix 3 (pos 0) ∷ get_or matrix 4 (pos 0)
    ∷ get_or matrix 5 (pos 0) ∷ get_or matrix 6 (pos 0) ∷ get_or matrix 7 (pos 0) ∷ get_or matrix 8 (pos 0) ∷ [])

-- C5: the setting that the numbers name
unfoldable pub setting_of : ℕ → ℕ → ℕ → ℕ → ℕ → ℕ → ℕ → List ℤ → ℕ → ℕ → Setting
setting_of rb rh rr components base curve matrixOn matrix residualOn transform =
    record {
      rb = rb;
      rh = rh;
      rr = rr;
      components = components;
      base_transform = colour_of base;
      curve = curve_of curve;
      matrix = matrix_of matrixOn;
      weights = weights_of matrix;
      residual = residual_of residualOn;
      residual_transform = colour_of transform;
    }

-- C6, C7: 20 before 21, and 0 where neither is given
unfoldable pub setting_number : Bool → Setting → ℕ → List ℤ → ℕ
setting_number named s pixels matrix =
    cond (every (named ∷ in_ranges s pixels ∷ plain s ∷ srgb_allowed s ∷ [])) (cond (eqb (length matrix) (matrix_count s.matrix)) 0 21) 20

-- C7: the tests of its numbers and its matrix, then the merge
unfoldable pub merge_call : Bool → Setting → ℕ → List ℤ → List ℤ → List ℕ → List ℤ → ℕ → Verdict ℕ
merge_call named s pixels base residual table matrix room =
    need (eqb (setting_number named s pixels matrix) 0) (setting_number named s pixels matrix) 0 (merge s pixels base residual table room)
