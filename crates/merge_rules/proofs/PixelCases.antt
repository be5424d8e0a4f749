-- Cases f, g and h of the whiteboard, and each step at chosen numbers, worked out by hand from the rules and computed on the definitions. Assumes nothing.
use mathlib.Core.Path.{◌≡◌, refl}
use mathlib.Core.List.{[], ◌∷◌, map}
use Prim.Native.Nat.{ℕ, ◌*◌, ◌^◌}
use lib.IntN.{ℤ, pos, negsuc}
use lib.ListN.{get_or}
use Rattle.merge_rules.specs.Near.{nearest, clip, row}
use Rattle.merge_rules.specs.declared.Setting.{Setting}
use Rattle.merge_rules.specs.declared.Colour.{Colour}
use Rattle.merge_rules.specs.declared.Colour.TheVariants.{Identity, Transform}
use Rattle.merge_rules.specs.declared.Curve.TheVariants.{Straight, Table, Srgb}
use Rattle.merge_rules.specs.declared.Matrix.{Matrix}
use Rattle.merge_rules.specs.declared.Matrix.TheVariants.{None, On}
use Rattle.merge_rules.specs.declared.Residual.{Residual}
use Rattle.merge_rules.specs.declared.Residual.TheVariants.{Absent, Present}
use Rattle.merge_rules.specs.Pixels.{Pixel, single, triple, each, both, component}
use Rattle.merge_rules.specs.Srgb.{srgb}
use Rattle.merge_rules.specs.Curves.{straight, curved}
use Rattle.merge_rules.specs.Steps.{tinted, tints, transform, recolour, first_centre, step_one, step_two, weighted, matrixed, step_three, scaled, step_four, added, alone, with_residual, step_five, basis, merged, by_curve}

-- a straight merge with three components
pub straight_with : ℕ → ℕ → ℕ → Colour → Matrix → Residual → Colour → Setting
straight_with rb rh rr base matrix residual turned =
    record {
      rb = rb;
      rh = rh;
      rr = rr;
      components = 3;
      base_transform = base;
      curve = Straight;
      matrix = matrix;
      weights = negsuc 8191 ∷ pos 0 ∷ pos 0 ∷ pos 0 ∷ pos 4096 ∷ pos 0 ∷ pos 0 ∷ pos 0 ∷ negsuc 4095 ∷ [];
      residual = residual;
      residual_transform = turned;
    }

-- f. "Rh 0: Y 100, Cb 128, Cr 138 gives 114, 93, 100"
pub case_f : step_one (straight_with 4 0 0 Transform None Absent Identity) (triple (pos 100) (pos 128) (pos 138)) ≡ triple 114 93 100
unfolding straight_with step_one recolour transform tints tinted first_centre each nearest row clip
case_f = refl

-- g. "Rb 4, straight: 128 gives 2056; with residual 2050 after step 4, 2058; base 255 with 2100 gives 4095; base 0 with 2000 gives 0"
pub case_g_alone : merged (straight_with 4 0 0 Identity None Absent Identity) [] (single (pos 128)) (single (pos 0)) ≡ single 2056
unfolding straight_with merged basis step_one step_two step_three step_four step_five recolour first_centre curved straight matrixed scaled with_residual alone each both nearest clip
case_g_alone = refl

pub case_g_added : map (λ (p : Pixel ℤ × Pixel ℤ). step_five (straight_with 4 0 0 Identity None Present Identity) (basis (straight_with 4 0 0 Identity None Present Identity) [] p.0) p.1)
    ((single (pos 128), single (pos 2050)) ∷ (single (pos 255), single (pos 2100)) ∷ (single (pos 0), single (pos 2000)) ∷ [])
    ≡ single 2058 ∷ single 4095 ∷ single 0 ∷ []
unfolding straight_with basis step_one step_two step_three step_five recolour first_centre curved straight matrixed with_residual added each both nearest clip
case_g_added = refl

-- h. "sRGB: 0, 1, 10, 255 give 0, 20, 199, 65535"
pub case_h : map (λ c. get_or srgb c 0) (0 ∷ 1 ∷ 10 ∷ 255 ∷ []) ≡ 0 ∷ 20 ∷ 199 ∷ 65535 ∷ []
unfolding srgb
case_h = refl

-- nothing is clipped before step 1: Y 300 with Cr 28 is 300 - 140.2 in red
pub not_clipped_before : step_one (straight_with 4 0 0 Transform None Absent Identity) (triple (pos 300) (pos 128) (pos 28)) ≡ triple 160 255 255
unfolding straight_with step_one recolour transform tints tinted first_centre each nearest row clip
not_clipped_before = refl

-- without a residual a matrix can leave the range on both sides, and the result is clipped
pub clipped_alone : merged (straight_with 1 0 0 Identity On Absent Identity) [] (triple (pos 255) (pos 255) (pos 255)) (triple (pos 0) (pos 0) (pos 0)) ≡ triple 0 256 0
unfolding straight_with merged basis step_one step_two step_three step_four step_five recolour first_centre curved straight matrixed weighted scaled with_residual alone each both nearest row clip
clipped_alone = refl

-- the residual's centre is 2^(7+Rb): grey at Rb 4 stays grey through its transform
pub residual_centre : step_four (straight_with 4 0 0 Identity None Present Transform) (triple (pos 10) (pos 128) (pos 128)) ≡ triple (pos 160) (pos 160) (pos 160)
unfolding straight_with step_four recolour transform tints tinted scaled each nearest row
residual_centre = refl

-- Rb 1, Rr 4: times 1/8, halves up: 4, -4, -12 to 1, 0, -1
pub scaled_down : map (scaled 1 4) (pos 4 ∷ negsuc 3 ∷ negsuc 11 ∷ []) ≡ pos 1 ∷ pos 0 ∷ negsuc 0 ∷ []
unfolding scaled nearest
scaled_down = refl

-- ---- each step at chosen numbers

-- "red = Y + 1402000 Cr, green = Y - 344136 Cb - 714136 Cr, blue = Y + 1772000 Cb", in millionths: a million of each alone
pub tints_apart : map (λ (p : ℤ × ℤ × ℤ). tints p.0 p.1 p.2) ((pos 1, pos 0, pos 0) ∷ (pos 0, pos 1000000, pos 0) ∷ (pos 0, pos 0, pos 1000000) ∷ [])
    ≡ triple (pos 1) (pos 1) (pos 1) ∷ triple (pos 0) (negsuc 344135) (pos 1772000) ∷ triple (pos 1402000) (negsuc 714135) (pos 0) ∷ []
unfolding tints tinted nearest row
tints_apart = refl

-- A2: "The centre is 2^(7+Rh)."
pub centres : map first_centre (0 ∷ 1 ∷ 2 ∷ 3 ∷ 4 ∷ []) ≡ pos 128 ∷ pos 256 ∷ pos 512 ∷ pos 1024 ∷ pos 2048 ∷ []
unfolding first_centre
centres = refl

-- A2: "Y 2048, Cb 2048, Cr 2048 gives 2048 three times after step 1", at Rh 4; "clip to 0 .. 2^(8+Rh)-1": nothing of 1000 and 4095 is cut, 4096 is
pub grey_at_four : map (λ y. step_one (straight_with 1 4 0 Transform None Absent Identity) (triple (pos y) (pos 2048) (pos 2048))) (2048 ∷ 1000 ∷ 4095 ∷ 4096 ∷ [])
    ≡ triple 2048 2048 2048 ∷ triple 1000 1000 1000 ∷ triple 4095 4095 4095 ∷ triple 4095 4095 4095 ∷ []
unfolding straight_with step_one recolour transform tints tinted first_centre each nearest row clip
grey_at_four = refl

-- f with each number 2^Rh times as large, at Rh 1 to 4 and another Rb: Cr is 20, 40, 80, 160 above the centre, and 1.402, -0.714136 of it are 28.04, -14.28 and so on
pub f_refined : map (λ (p : ℕ × ℕ). step_one (straight_with p.0 p.1 0 Transform None Absent Identity) (triple (pos (100 * 2 ^ p.1)) (pos (128 * 2 ^ p.1)) (pos (138 * 2 ^ p.1))))
    ((8, 1) ∷ (1, 2) ∷ (4, 3) ∷ (2, 4) ∷ [])
    ≡ triple 228 186 200 ∷ triple 456 371 400 ∷ triple 912 743 800 ∷ triple 1824 1486 1600 ∷ []
unfolding straight_with step_one recolour transform tints tinted first_centre each nearest row clip
f_refined = refl

-- the clip holds for the identity too, and at Rh and not Rb: -1, 511, 512 at Rh 1, Rb 8
pub identity_clipped : step_one (straight_with 8 1 0 Identity None Absent Transform) (triple (negsuc 0) (pos 511) (pos 512)) ≡ triple 0 511 511
unfolding straight_with step_one recolour first_centre each clip
identity_clipped = refl

-- step 2 by the curve that is set, from Rh to Rb: 511/4095 straight, by a table, by sRGB
pub curves_apart : map (λ k. step_two (by_curve k (straight_with 1 4 0 Identity None Absent Identity)) (3 ∷ 6 ∷ 9 ∷ []) (triple 0 1 2)) (Straight ∷ Table ∷ Srgb ∷ [])
    ≡ triple (pos 0) (pos 0) (pos 0) ∷ triple (pos 3) (pos 6) (pos 9) ∷ triple (pos 0) (pos 20) (pos 40) ∷ []
unfolding straight_with step_two curved straight nearest srgb each
curves_apart = refl

pub straight_from_four : step_two (straight_with 1 4 0 Identity None Absent Identity) [] (triple 5 2048 4095) ≡ triple (pos 1) (pos 256) (pos 511)
unfolding straight_with step_two curved straight nearest each
straight_from_four = refl

-- "in 1/8192, row by row", not clipped: the rows 1 2 3, 0 -1 2, 3 1 -2 over 1, 10, 100; none leaves them
pub rows_apart : map (λ m. matrixed m (pos 8192 ∷ pos 16384 ∷ pos 24576 ∷ pos 0 ∷ negsuc 8191 ∷ pos 16384 ∷ pos 24576 ∷ pos 8192 ∷ negsuc 16383 ∷ []) (triple (pos 1) (pos 10) (pos 100))) (On ∷ None ∷ [])
    ≡ triple (pos 321) (pos 190) (negsuc 186) ∷ triple (pos 1) (pos 10) (pos 100) ∷ []
unfolding matrixed weighted nearest row
rows_apart = refl

-- "rounded halves up": 1 and 3 with a weight of 1/2, and of -1/2: -1/2 and -3/2 go to 0 and -1
pub matrix_halves : map (λ (p : ℕ × ℤ). weighted (pos 4096 ∷ pos 0 ∷ pos 0 ∷ negsuc 4095 ∷ pos 0 ∷ pos 0 ∷ []) p.0 p.1 (pos 0) (pos 0)) ((0, pos 1) ∷ (0, pos 3) ∷ (3, pos 1) ∷ (3, pos 3) ∷ [])
    ≡ pos 1 ∷ pos 2 ∷ pos 0 ∷ negsuc 0 ∷ []
unfolding weighted nearest row
matrix_halves = refl

-- "times 2^(Rb-Rr)": Rb 4, Rr 1 is times 8, Rb 2, Rr 2 leaves
pub scaled_up : map (scaled 4 1) (pos 3 ∷ negsuc 2 ∷ []) ≡ pos 24 ∷ negsuc 23 ∷ []
unfolding scaled nearest
scaled_up = refl

pub scaled_same : scaled 2 2 (negsuc 4) ≡ negsuc 4
unfolding scaled nearest
scaled_same = refl

-- base and residual transform are two settings: the base's alone leaves the residual, the residual's alone leaves the base
pub transforms_apart : step_four (straight_with 1 0 1 Transform None Present Identity) (triple (pos 10) (pos 20) (pos 30)) ≡ triple (pos 10) (pos 20) (pos 30)
unfolding straight_with step_four recolour scaled each nearest
transforms_apart = refl

pub base_left : step_one (straight_with 1 0 1 Identity None Present Transform) (triple (pos 10) (pos 20) (pos 30)) ≡ triple 10 20 30
unfolding straight_with step_one recolour first_centre each clip
base_left = refl

-- "with centre 2^(7+Rb), rounded, not clipped": Rb 4, Rr 4, 100 with Cr ten above 2048 as in f; and -100
pub residual_tinted : map (step_four (straight_with 4 0 4 Identity None Present Transform)) (triple (pos 100) (pos 2048) (pos 2058) ∷ triple (negsuc 99) (pos 2048) (pos 2048) ∷ [])
    ≡ triple (pos 114) (pos 93) (pos 100) ∷ triple (negsuc 99) (negsuc 99) (negsuc 99) ∷ []
unfolding straight_with step_four recolour transform tints tinted scaled each nearest row
residual_tinted = refl

-- the scaling rounds first: Rb 1, Rr 2, Cr 515 is 257.5, so 258, two above 256, and red is 2.804, so 3
pub rounds_twice : step_four (straight_with 1 0 2 Identity None Present Transform) (triple (pos 0) (pos 512) (pos 515)) ≡ triple (pos 3) (negsuc 0) (pos 0)
unfolding straight_with step_four recolour transform tints tinted scaled each nearest row
rounds_twice = refl

-- "base plus residual minus 2^(7+Rb) .., clipped to 0 .. 2^(8+Rb)-1", at Rb 1: 256 and 511
pub added_at_one : map (λ (p : ℤ × ℤ). added 1 p.0 p.1) ((pos 300, pos 256) ∷ (pos 300, pos 466) ∷ (pos 300, pos 467) ∷ (pos 300, pos 468) ∷ (pos 3, pos 253) ∷ (pos 3, pos 252) ∷ [])
    ≡ 300 ∷ 510 ∷ 511 ∷ 511 ∷ 0 ∷ 0 ∷ []
unfolding added clip
added_at_one = refl

-- "(without a residual, base alone)", clipped
pub alone_at_one : map (alone 1) (negsuc 0 ∷ pos 0 ∷ pos 511 ∷ pos 512 ∷ []) ≡ 0 ∷ 0 ∷ 511 ∷ 511 ∷ []
unfolding alone clip
alone_at_one = refl

-- a residual is added where it is present, and not looked at where it is absent
pub residual_or_not : map (λ k. with_residual k 1 (triple (pos 10) (pos 20) (pos 30)) (triple (pos 257) (pos 258) (pos 259))) (Absent ∷ Present ∷ []) ≡ triple 10 20 30 ∷ triple 11 22 33 ∷ []
unfolding with_residual each both alone added clip
residual_or_not = refl

-- all five steps: f through 4095/255 is 1831, 1493, 1606; the matrix exchanges the first two; the residual is 2058 with Cr ten above 2048, so 24, 3, 10 are added
pub exchanging : Setting
exchanging =
    record {
      rb = 4;
      rh = 0;
      rr = 4;
      components = 3;
      base_transform = Transform;
      curve = Straight;
      matrix = On;
      weights = pos 0 ∷ pos 8192 ∷ pos 0 ∷ pos 8192 ∷ pos 0 ∷ pos 0 ∷ pos 0 ∷ pos 0 ∷ pos 8192 ∷ [];
      residual = Present;
      residual_transform = Transform;
    }

pub all_steps : merged exchanging [] (triple (pos 100) (pos 128) (pos 138)) (triple (pos 2058) (pos 2048) (pos 2058)) ≡ triple 1517 1834 1616
unfolding exchanging merged basis step_one step_two step_three step_four step_five recolour transform tints tinted first_centre curved straight matrixed weighted scaled with_residual added each both nearest row clip
all_steps = refl

-- the components of a pixel
pub components_apart : map (λ k. component {A = ℕ} k (triple 7 8 9)) (0 ∷ 1 ∷ 2 ∷ []) ≡ 7 ∷ 8 ∷ 9 ∷ []
unfolding component
components_apart = refl
