-- What the numbers of the merge's call name, and its refusals, worked out by hand from what include/auhowipi.h says and from C5 to C7. Assumes nothing.
use mathlib.Core.Path.{◌≡◌, refl}
use mathlib.Core.Bool.{Bool, true, false}
use mathlib.Core.List.{List, [], ◌∷◌, map}
use Prim.Native.Nat.{ℕ}
use lib.IntN.{ℤ, pos, negsuc}
use lib.ListN.{replicate}
use Rattle.laws.specs.Index.{every, tab, join_to}
use Rattle.laws.specs.First.{first_fail, or_here}
use Rattle.answers.specs.Verdict.{given, refused, refusal}
use Rattle.merge_rules.specs.declared.Curve.TheVariants.{Straight, Table, Srgb}
use Rattle.merge_rules.specs.Curves.{entries}
use Rattle.merge_rules.specs.declared.Colour.TheVariants.{Identity, Transform}
use Rattle.merge_rules.specs.declared.Matrix.TheVariants.{None, On}
use Rattle.merge_rules.specs.declared.Residual.TheVariants.{Absent, Present}
use Rattle.merge_rules.specs.declared.Setting.{Setting}
use Rattle.merge_rules.specs.Settings.{in_ranges, plain, srgb_allowed, residual_count, lengths_right, entry_right}
use Rattle.merge_rules.specs.Picture.{planes, merged_picture, merge, merge_tests}
use Rattle.merge_rules.specs.Call.{colour_of, curve_of, matrix_of, residual_of, known, matrix_count, weights_of, setting_of, setting_number, merge_call}

-- C5: 0 identity, 1 the transform; 0 straight, 1 the lent table, 2 inverse sRGB; 0 absent, 1 present
pub colours : map colour_of (0 ∷ 1 ∷ []) ≡ Identity ∷ Transform ∷ []
unfolding colour_of
colours = refl

pub curves : map curve_of (0 ∷ 1 ∷ 2 ∷ []) ≡ Straight ∷ Table ∷ Srgb ∷ []
unfolding curve_of
curves = refl

pub matrices : map matrix_of (0 ∷ 1 ∷ []) ≡ None ∷ On ∷ []
unfolding matrix_of
matrices = refl

pub residuals : map residual_of (0 ∷ 1 ∷ []) ≡ Absent ∷ Present ∷ []
unfolding residual_of
residuals = refl

-- C6, an unknown one is 20: each number at its last name, and then one above, the others named
pub names : map (λ (p : ℕ × ℕ × ℕ × ℕ × ℕ). known p.0 p.1 p.2 p.3 p.4) ((1, 2, 1, 1, 1) ∷ (2, 0, 0, 0, 0) ∷ (0, 3, 0, 0, 0) ∷ (0, 0, 2, 0, 0) ∷ (0, 0, 0, 2, 0) ∷ (0, 0, 0, 0, 2) ∷ [])
    ≡ true ∷ false ∷ false ∷ false ∷ false ∷ false ∷ []
unfolding known every
names = refl

-- C7: the matrix has 9 numbers when on and is empty otherwise
pub counts : map matrix_count (None ∷ On ∷ []) ≡ 0 ∷ 9 ∷ []
unfolding matrix_count
counts = refl

-- nine weights in their order; fewer are none
pub nine : List ℤ
nine = pos 1 ∷ negsuc 1 ∷ pos 3 ∷ pos 4 ∷ pos 5 ∷ pos 6 ∷ pos 7 ∷ pos 8 ∷ pos 9 ∷ []

pub weights_told : map weights_of (nine ∷ (pos 1 ∷ []) ∷ []) ≡ nine ∷ replicate 9 (pos 0) ∷ []
unfolding weights_of nine
weights_told = refl

-- each number goes to its own place: Rb 3, Rh 2, Rr 1, three components; the base's transform without the residual's, and the other way round
pub setting_told : setting_of 3 2 1 3 1 1 0 [] 1 0 ∷ setting_of 8 0 4 1 0 2 1 nine 0 1 ∷ []
    ≡ record {
      rb = 3;
      rh = 2;
      rr = 1;
      components = 3;
      base_transform = Transform;
      curve = Table;
      matrix = None;
      weights = replicate 9 (pos 0);
      residual = Present;
      residual_transform = Identity;
    }
    ∷ record {
      rb = 8;
      rh = 0;
      rr = 4;
      components = 1;
      base_transform = Identity;
      curve = Srgb;
      matrix = On;
      weights = nine;
      residual = Absent;
      residual_transform = Transform;
    }
    ∷ []
unfolding setting_of colour_of curve_of matrix_of residual_of weights_of nine
setting_told = refl

-- 20 before 21: an unknown name, Rb 9, a matrix over one component, sRGB at Rb 7, each with a matrix of a wrong length; then 21, and 0
pub numbers_told : map (λ (p : Bool × Setting × List ℤ). setting_number p.0 p.1 1 p.2)
    ((false, setting_of 8 0 0 3 0 0 1 nine 0 0, []) ∷ (true, setting_of 9 0 0 3 0 0 1 nine 0 0, []) ∷ (true, setting_of 8 0 0 1 0 0 1 nine 0 0, []) ∷ (true, setting_of 7 0 0 3 0 2 1 nine 0 0, [])
    ∷ (true, setting_of 8 0 0 3 0 0 1 nine 0 0, []) ∷ (true, setting_of 8 0 0 3 0 0 0 nine 0 0, nine) ∷ (true, setting_of 8 0 0 3 0 0 1 nine 0 0, nine) ∷ (true, setting_of 8 0 0 3 0 0 0 nine 0 0, []) ∷ [])
    ≡ 20 ∷ 20 ∷ 20 ∷ 20 ∷ 21 ∷ 21 ∷ 0 ∷ 0 ∷ []
unfolding setting_number matrix_count setting_of colour_of curve_of matrix_of residual_of weights_of nine in_ranges plain srgb_allowed every
numbers_told = refl

-- the whole call with no pixels: an unknown name and a wrong matrix, a wrong matrix and an entry that is too large, that entry at 3, and no fault
pub large : List ℕ
large = 0 ∷ 0 ∷ 0 ∷ replicate 253 512

pub calls : map (λ (p : Bool × ℕ × List ℤ). merge_call p.0 (setting_of p.1 0 0 3 0 1 0 [] 0 0) 0 [] [] large p.2 0) ((false, 1, nine) ∷ (true, 1, nine) ∷ (true, 1, []) ∷ (true, 2, []) ∷ [])
    ≡ refused (refusal 20 0) ∷ refused (refusal 21 0) ∷ refused (refusal 11 3) ∷ given [] ∷ []
unfolding large nine merge_call setting_number matrix_count setting_of colour_of curve_of matrix_of residual_of weights_of merge merge_tests merged_picture planes join_to tab every first_fail or_here
    in_ranges plain srgb_allowed residual_count lengths_right entry_right entries
calls = refl
