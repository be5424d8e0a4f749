-- The merge of a picture: its layout, and every pair of refusals that follow one another as one input with both faults, worked out by hand from the rules. Assumes nothing.
use mathlib.Core.Path.{◌≡◌, refl}
use mathlib.Core.List.{List, [], ◌∷◌, map}
use Prim.Native.Nat.{ℕ, ◌+◌}
use lib.IntN.{ℤ, pos}
use lib.ListN.{replicate}
use Rattle.laws.specs.Index.{every, tab, join_to}
use Rattle.laws.specs.First.{first_fail, or_here}
use Rattle.answers.specs.Verdict.{given, refused, refusal}
use Rattle.merge_rules.specs.Near.{nearest, clip, row}
use Rattle.merge_rules.specs.declared.Curve.{Curve}
use Rattle.merge_rules.specs.declared.Curve.TheVariants.{Straight, Table, Srgb}
use Rattle.merge_rules.specs.Curves.{straight, curved, entries}
use Rattle.merge_rules.specs.declared.Setting.{Setting}
use Rattle.merge_rules.specs.declared.Colour.TheVariants.{Identity}
use Rattle.merge_rules.specs.declared.Matrix.{Matrix}
use Rattle.merge_rules.specs.declared.Matrix.TheVariants.{None, On}
use Rattle.merge_rules.specs.declared.Residual.{Residual}
use Rattle.merge_rules.specs.declared.Residual.TheVariants.{Absent, Present}
use Rattle.merge_rules.specs.Pixels.{single, triple, each, both, component}
use Rattle.merge_rules.specs.Steps.{recolour, first_centre, step_one, step_two, weighted, matrixed, step_three, scaled, step_four, added, alone, with_residual, step_five, basis, merged}
use Rattle.merge_rules.specs.Settings.{in_ranges, plain, srgb_allowed, residual_count, lengths_right, entry_right}
use Rattle.merge_rules.specs.Picture.{pixel_at, merged_at, planes, merged_picture, merge, merge_tests}

-- Rb, Rh and Rr alike, so that straight and the scaling leave each number; a matrix that hands each component on to the one before
pub turning : Matrix → Residual → Setting
turning matrix residual =
    record {
      rb = 4;
      rh = 4;
      rr = 4;
      components = 3;
      base_transform = Identity;
      curve = Straight;
      matrix = matrix;
      weights = pos 0 ∷ pos 8192 ∷ pos 0 ∷ pos 0 ∷ pos 0 ∷ pos 8192 ∷ pos 8192 ∷ pos 0 ∷ pos 0 ∷ [];
      residual = residual;
      residual_transform = Identity;
    }

-- one component at Rh 0
pub single_by : ℕ → Curve → Matrix → Setting
single_by rb curve matrix =
    record {
      rb = rb;
      rh = 0;
      rr = 0;
      components = 1;
      base_transform = Identity;
      curve = curve;
      matrix = matrix;
      weights = replicate 9 (pos 0);
      residual = Absent;
      residual_transform = Identity;
    }

-- "component planes follow one another", in what is lent: two pixels, the second one at 1, 3, 5; and one pixel of one component
pub pixels_told : pixel_at 3 2 (pos 10 ∷ pos 11 ∷ pos 20 ∷ pos 21 ∷ pos 30 ∷ pos 31 ∷ []) 1 ∷ pixel_at 1 2 (pos 10 ∷ pos 11 ∷ []) 1 ∷ [] ≡ triple (pos 11) (pos 21) (pos 31) ∷ single (pos 11) ∷ []
unfolding pixel_at
pixels_told = refl

-- and in the result: planes of two pixels
pub planes_told : planes 3 2 (λ p. triple (10 + p) (20 + p) (30 + p)) ≡ 10 ∷ 11 ∷ 20 ∷ 21 ∷ 30 ∷ 31 ∷ []
unfolding planes join_to tab component
planes_told = refl

-- base planes 1 2, 3 4, 5 6 and residual planes 10 20, 30 40, 50 60 above 2048: the matrix turns the base's planes, and each residual stays in its place
pub picture_told : map (λ (p : Matrix × Residual × List ℤ). merge (turning p.0 p.1) 2 (pos 1 ∷ pos 2 ∷ pos 3 ∷ pos 4 ∷ pos 5 ∷ pos 6 ∷ []) p.2 [] 7)
    ((None, Absent, []) ∷ (On, Absent, []) ∷ (On, Present, pos 2058 ∷ pos 2068 ∷ pos 2078 ∷ pos 2088 ∷ pos 2098 ∷ pos 2108 ∷ []) ∷ [])
    ≡ given (1 ∷ 2 ∷ 3 ∷ 4 ∷ 5 ∷ 6 ∷ []) ∷ given (3 ∷ 4 ∷ 5 ∷ 6 ∷ 1 ∷ 2 ∷ []) ∷ given (13 ∷ 24 ∷ 35 ∷ 46 ∷ 51 ∷ 62 ∷ []) ∷ []
unfolding turning merge merge_tests merged_picture planes merged_at pixel_at join_to tab every first_fail or_here in_ranges plain srgb_allowed residual_count lengths_right entry_right entries
    merged basis step_one step_two step_three step_four step_five recolour first_centre curved straight matrixed weighted scaled with_residual alone added each both component nearest row clip
picture_told = refl

-- "Merge: 20, 21, 11, 9": each pair as one input with both faults. The table's entry 3 is too large at Rb 1.
pub large : List ℕ
large = 0 ∷ 0 ∷ 511 ∷ 512 ∷ replicate 252 512

pub one_fault_first : map (λ (p : Setting × List ℤ × List ℕ). merge p.0 1 p.1 [] p.2 0)
    ((single_by 0 Table None, [], large) ∷ (single_by 1 Table On, [], large) ∷ (single_by 7 Srgb None, [], large) ∷ (single_by 1 Table None, [], large)
    ∷ (single_by 1 Table None, pos 5 ∷ [], large) ∷ (single_by 1 Table None, pos 5 ∷ [], replicate 256 511) ∷ [])
    ≡ refused (refusal 20 0) ∷ refused (refusal 20 0) ∷ refused (refusal 20 0) ∷ refused (refusal 21 0) ∷ refused (refusal 11 3) ∷ refused (refusal 9 1) ∷ []
unfolding large single_by merge merge_tests merged_picture planes merged_at pixel_at join_to tab every first_fail or_here in_ranges plain srgb_allowed residual_count lengths_right entry_right entries
    merged basis step_one step_two step_three step_four step_five recolour first_centre curved matrixed scaled with_residual alone each component nearest clip
one_fault_first = refl

-- 9's place is all samples of the picture, and as much room is enough; 11 holds with no pixels too
pub room_edges : map (λ room. merge (turning None Absent) 1 (pos 7 ∷ pos 8 ∷ pos 9 ∷ []) [] [] room) (2 ∷ 3 ∷ []) ≡ refused (refusal 9 3) ∷ given (7 ∷ 8 ∷ 9 ∷ []) ∷ []
unfolding turning merge merge_tests merged_picture planes merged_at pixel_at join_to tab every first_fail or_here in_ranges plain srgb_allowed residual_count lengths_right entry_right entries
    merged basis step_one step_two step_three step_four step_five recolour first_centre curved straight matrixed scaled with_residual alone each component nearest clip
room_edges = refl

pub no_pixels : map (λ (p : ℕ × List ℕ). merge (single_by p.0 Table None) 0 [] [] p.1 0) ((1, large) ∷ (2, large) ∷ []) ≡ refused (refusal 11 3) ∷ given [] ∷ []
unfolding large single_by merge merge_tests merged_picture planes join_to tab every first_fail or_here in_ranges plain srgb_allowed residual_count lengths_right entry_right entries
no_pixels = refl
