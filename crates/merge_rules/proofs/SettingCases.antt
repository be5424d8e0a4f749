-- What may be set and must be lent, on both sides of each edge, worked out by hand from the rules and computed on the definitions. Assumes nothing.
use mathlib.Core.Path.{◌≡◌, refl}
use mathlib.Core.Bool.{true, false}
use mathlib.Core.List.{List, [], ◌∷◌, map}
use Prim.Native.Nat.{ℕ}
use lib.IntN.{ℤ, pos}
use lib.ListN.{replicate}
use Rattle.laws.specs.Index.{every}
use Rattle.merge_rules.specs.declared.Curve.{Curve}
use Rattle.merge_rules.specs.declared.Curve.TheVariants.{Straight, Table, Srgb}
use Rattle.merge_rules.specs.Curves.{entries}
use Rattle.merge_rules.specs.declared.Setting.{Setting}
use Rattle.merge_rules.specs.declared.Colour.{Colour}
use Rattle.merge_rules.specs.declared.Colour.TheVariants.{Identity, Transform}
use Rattle.merge_rules.specs.declared.Matrix.{Matrix}
use Rattle.merge_rules.specs.declared.Matrix.TheVariants.{None, On}
use Rattle.merge_rules.specs.declared.Residual.{Residual}
use Rattle.merge_rules.specs.declared.Residual.TheVariants.{Absent, Present}
use Rattle.merge_rules.specs.Settings.{in_ranges, plain, srgb_allowed, residual_count, lengths_right, entry_right}

-- Rb, Rh, Rr and the components
pub sized : ℕ → ℕ → ℕ → ℕ → Setting
sized rb rh rr components =
    record {
      rb = rb;
      rh = rh;
      rr = rr;
      components = components;
      base_transform = Identity;
      curve = Straight;
      matrix = None;
      weights = replicate 9 (pos 0);
      residual = Absent;
      residual_transform = Identity;
    }

-- components, base transform, residual transform and matrix
pub shown : ℕ → Colour → Colour → Matrix → Setting
shown components base residual matrix =
    record {
      rb = 1;
      rh = 0;
      rr = 0;
      components = components;
      base_transform = base;
      curve = Straight;
      matrix = matrix;
      weights = replicate 9 (pos 0);
      residual = Absent;
      residual_transform = residual;
    }

-- Rb, Rh, components, curve and residual
pub lending : ℕ → ℕ → ℕ → Curve → Residual → Setting
lending rb rh components curve residual =
    record {
      rb = rb;
      rh = rh;
      rr = 0;
      components = components;
      base_transform = Identity;
      curve = curve;
      matrix = None;
      weights = replicate 9 (pos 0);
      residual = residual;
      residual_transform = Identity;
    }

-- "Rb 1 to 8; Rh and Rr .. 0 to 4; .. 0 to 65,536 pixels a merge; one or three components"
pub rb_edges : map (λ rb. in_ranges (sized rb 0 0 1) 1) (0 ∷ 1 ∷ 8 ∷ 9 ∷ []) ≡ false ∷ true ∷ true ∷ false ∷ []
unfolding in_ranges every sized
rb_edges = refl

pub rh_edges : map (λ rh. in_ranges (sized 1 rh 0 1) 1) (0 ∷ 4 ∷ 5 ∷ []) ≡ true ∷ true ∷ false ∷ []
unfolding in_ranges every sized
rh_edges = refl

pub rr_edges : map (λ rr. in_ranges (sized 1 0 rr 1) 1) (0 ∷ 4 ∷ 5 ∷ []) ≡ true ∷ true ∷ false ∷ []
unfolding in_ranges every sized
rr_edges = refl

pub component_edges : map (λ c. in_ranges (sized 1 0 0 c) 1) (0 ∷ 1 ∷ 2 ∷ 3 ∷ 4 ∷ []) ≡ false ∷ true ∷ false ∷ true ∷ false ∷ []
unfolding in_ranges every sized
component_edges = refl

pub pixel_edges : map (in_ranges (sized 1 0 0 1)) (0 ∷ 65536 ∷ 65537 ∷ []) ≡ true ∷ true ∷ false ∷ []
unfolding in_ranges every sized
pixel_edges = refl

-- "One component with a transform or matrix is 20": nothing, the base's, the residual's, the matrix; three components may have all
pub one_component : map plain (shown 1 Identity Identity None ∷ shown 1 Transform Identity None ∷ shown 1 Identity Transform None ∷ shown 1 Identity Identity On ∷ shown 3 Transform Transform On ∷ [])
    ≡ true ∷ false ∷ false ∷ false ∷ true ∷ []
unfolding plain every shown
one_component = refl

-- "the inverse sRGB table, only at Rh 0 and Rb 8, else 20"; another curve may stand anywhere
pub srgb_places : map srgb_allowed (lending 8 0 1 Srgb Absent ∷ lending 7 0 1 Srgb Absent ∷ lending 8 1 1 Srgb Absent ∷ lending 7 1 1 Straight Absent ∷ lending 7 1 1 Table Absent ∷ [])
    ≡ true ∷ false ∷ false ∷ true ∷ true ∷ []
unfolding srgb_allowed every lending
srgb_places = refl

-- "Residual, if present"
pub residual_counts : map (λ r. residual_count r 6) (Absent ∷ Present ∷ []) ≡ 0 ∷ 6 ∷ []
unfolding residual_count
residual_counts = refl

-- 21 at three components of two pixels: the base 5, 6, 7 long; the residual 6 long where it is present, empty where it is not
pub zeros : ℕ → List ℤ
zeros n = replicate n (pos 0)

pub base_lengths : map (λ n. lengths_right (lending 1 0 3 Straight Absent) 2 (zeros n) [] []) (2 ∷ 5 ∷ 6 ∷ 7 ∷ []) ≡ false ∷ false ∷ true ∷ false ∷ []
unfolding lengths_right residual_count entries every lending zeros
base_lengths = refl

pub residual_lengths : map (λ (p : Residual × ℕ). lengths_right (lending 1 0 3 Straight p.0) 2 (zeros 6) (zeros p.1) [])
    ((Absent, 0) ∷ (Absent, 1) ∷ (Absent, 6) ∷ (Present, 0) ∷ (Present, 5) ∷ (Present, 6) ∷ (Present, 7) ∷ [])
    ≡ true ∷ false ∷ false ∷ false ∷ false ∷ true ∷ false ∷ []
unfolding lengths_right residual_count entries every lending zeros
residual_lengths = refl

-- "a lent table of 2^(8+Rh) numbers" at Rh 0 and 1; "an input not used must be empty"
pub table_lengths : map (λ (p : Curve × ℕ × ℕ). lengths_right (lending 8 p.1 1 p.0 Absent) 0 [] [] (replicate p.2 0))
    ((Table, 0, 255) ∷ (Table, 0, 256) ∷ (Table, 0, 257) ∷ (Table, 1, 256) ∷ (Table, 1, 512) ∷ (Straight, 0, 0) ∷ (Straight, 0, 256) ∷ (Srgb, 0, 0) ∷ (Srgb, 0, 256) ∷ [])
    ≡ false ∷ true ∷ false ∷ false ∷ true ∷ true ∷ false ∷ true ∷ false ∷ []
unfolding lengths_right residual_count entries every lending
table_lengths = refl

-- "each at most 2^(8+Rb)-1, else 11", at Rb 1
pub entry_edges : map (entry_right 511 (0 ∷ 511 ∷ 512 ∷ [])) (0 ∷ 1 ∷ 2 ∷ []) ≡ true ∷ true ∷ false ∷ []
unfolding entry_right
entry_edges = refl
