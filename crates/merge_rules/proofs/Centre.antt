-- The centre of step 1: the middle of its range, at Rh 0 the 128 of a picture without refinement; and grey stays grey at every Rh. Assumes nothing.
use mathlib.Core.Path.{◌≡◌, ap, ◌∙◌}
use Prim.Native.Nat.{ℕ, suc, ◌+◌, ◌*◌, ◌^◌, ◌<◌}
use native.Mathlib.Nat.{pow-suc}
use native.Mathlib.Omega.{arith}
use lib.Pow.{pow_pos}
use lib.IntN.{ℤ, pos, ◌+ℤ◌, ◌*ℤ◌, +ℤ_idr, +ℤ_invr, *ℤ-zero}
use Rattle.laws.proofs.Integers.{sum, pos_up, pos_dn, ≤-of, <-of}
use Rattle.laws.proofs.Floors.{times, floor_is}
use Rattle.merge_rules.specs.Near.{nearest, clip, row, top}
use Rattle.merge_rules.specs.declared.Setting.{Setting}
use Rattle.merge_rules.specs.declared.Colour.TheVariants.{Transform}
use Rattle.merge_rules.specs.Pixels.{Pixel, triple, each}
use Rattle.merge_rules.specs.Steps.{tinted, tints, transform, recolour, first_centre, step_one}

-- twice the centre is as many numbers as "0 .. 2^(8+Rh)-1" has
pub middle : (rh : ℕ) → pos 2 *ℤ first_centre rh ≡ pos (top rh + 1)
unfolding first_centre
middle rh =
    let e : 8 + rh ≡ suc (7 + rh) = omega arith in
    ap pos (omega (arith, ap (λ n. 2 ^ n) e ∙ pow-suc 2 (7 + rh), pow_pos (8 + rh)))

-- A2: "At Rh 0 nothing changes": step 1 takes 128 from every pixel's colour differences, and clips to 255
pub as_before : (s : Setting) (p : Pixel ℤ) → s.rh ≡ 0 → step_one s p ≡ each (λ v. clip v 255) (recolour s.base_transform (pos 128) p)
unfolding step_one first_centre
as_before s p e = rw e

-- ---- grey

-- what is a whole number of wholes is not rounded
nearest_whole : (y : ℤ) (m : ℕ) → 0 < m → nearest (pos m *ℤ y) m ≡ y
unfolding nearest
nearest_whole y m h =
    let w = pos 2 *ℤ (pos m *ℤ y) +ℤ pos m in
    let e = sum (pos 2 *ℤ (pos m *ℤ y)) (pos m) in
    floor_is w y (2 * m) (omega arith)
    (≤-of _ _ (omega (arith, times (2 * m) y, times 2 (pos m *ℤ y), times m y, pos_up m, pos_dn m)))
    (<-of _ _ (omega (arith, times (2 * m) (y +ℤ pos 1), times 2 (pos m *ℤ y), times m y, ap (λ n. m * n) (sum y (pos 1)), ap (λ n. m * n) (pos_up 1), ap (λ n. m * n) (pos_dn 1), pos_up m, pos_dn m)))

-- a colour difference of 0 adds nothing, whatever its weight
untinted : (l m y : ℤ) → tinted l m y (pos 0) (pos 0) ≡ y
unfolding tinted row
untinted l m y = rw (*ℤ-zero l, *ℤ-zero m, +ℤ_idr (pos 1000000 *ℤ y), +ℤ_idr (pos 1000000 *ℤ y)) (nearest_whole y 1000000 (omega arith))

all_untinted : (k l m n o p y : ℤ) → triple (tinted k l y (pos 0) (pos 0)) (tinted m n y (pos 0) (pos 0)) (tinted o p y (pos 0) (pos 0)) ≡ triple y y y
all_untinted k l m n o p y = rw (untinted k l y, untinted m n y, untinted o p y)

no_tints : (y : ℤ) → tints y (pos 0) (pos 0) ≡ triple y y y
unfolding tints
no_tints y = all_untinted _ _ _ _ _ _ y

-- a pixel whose colour differences stand at the centre keeps its Y in all three components, clipped, at every Rh
pub grey : (s : Setting) (y : ℤ) → s.base_transform ≡ Transform
    → step_one s (triple y (pos (2 ^ (7 + s.rh))) (pos (2 ^ (7 + s.rh)))) ≡ triple (clip y (top s.rh)) (clip y (top s.rh)) (clip y (top s.rh))
unfolding step_one recolour transform first_centre each
grey s y e = rw (e, +ℤ_invr, no_tints)
