-- M9 to M18: the five steps of the merge for one pixel. A transform or a matrix over a single number is refused before any step (20, M2).
use Rattle.std.specs.Prelude.{List, ℕ, ◌+◌, ◌^◌, ℤ, pos, neg_ℤ, ◌+ℤ◌, ◌-ℤ◌, ◌*ℤ◌, get_or}
use Rattle.merge_rules.specs.Near.{nearest, clip, row, top}
use Rattle.merge_rules.specs.Curves.{curved}
use Rattle.merge_rules.specs.declared.Curve.{Curve}
use Rattle.merge_rules.specs.declared.Setting.{Setting}
use Rattle.merge_rules.specs.declared.Colour.{Colour}
use Rattle.merge_rules.specs.declared.Colour.TheVariants.{Identity, Transform}
use Rattle.merge_rules.specs.declared.Matrix.{Matrix}
use Rattle.merge_rules.specs.declared.Matrix.TheVariants.{None, On}
use Rattle.merge_rules.specs.declared.Residual.{Residual}
use Rattle.merge_rules.specs.declared.Residual.TheVariants.{Absent, Present}
use Rattle.merge_rules.specs.Pixels.{Pixel, single, triple, each, both}

-- ---- 1. base transform

-- M9: Y and a weight of each colour difference, "in millionths .. Round to nearest, halves up"
unfoldable pub tinted : ℤ → ℤ → ℤ → ℤ → ℤ → ℤ
tinted l m y cb cr = nearest (row (pos 1000000) l m y cb cr) 1000000

-- M9: "red = Y + 1402000 Cr, green = Y - 344136 Cb - 714136 Cr, blue = Y + 1772000 Cb"
unfoldable pub tints : ℤ → ℤ → ℤ → Pixel ℤ
tints y cb cr =
    triple (tinted (pos 0) (pos 1402000) y cb cr)
    (tinted (neg_ℤ (pos 344136)) (neg_ℤ (pos 714136)) y cb cr)
    (tinted (pos 1772000) (pos 0) y cb cr)

-- M9: Cb and Cr are taken less a centre: M10 has that of step 1, M16 that of step 4
unfoldable pub transform : ℤ → Pixel ℤ → Pixel ℤ
transform centre (single y) = single y
transform centre (triple y cb cr) = tints y (cb -ℤ centre) (cr -ℤ centre)

-- M9: "identity, or .. three components"
unfoldable pub recolour : Colour → ℤ → Pixel ℤ → Pixel ℤ
recolour Identity centre p = p
recolour Transform centre p = transform centre p

-- M10: "The centre is 2^(7+Rh)."
unfoldable pub first_centre : ℕ → ℤ
first_centre rh = pos (2 ^ (7 + rh))

-- M11: "clip to 0 .. 2^(8+Rh)-1"
unfoldable pub step_one : Setting → Pixel ℤ → Pixel ℕ
step_one s p = each (λ v. clip v (top s.rh)) (recolour s.base_transform (first_centre s.rh) p)

-- ---- 2. base curve

-- M12, M13: each number by the curve of the setting
unfoldable pub step_two : Setting → List ℕ → Pixel ℕ → Pixel ℤ
step_two s table p = each (curved s.curve s.rb s.rh table) p

-- ---- 3. matrix

-- M15: a row of three numbers "in 1/8192 .. rounded halves up, not clipped", from index i on
unfoldable pub weighted : List ℤ → ℕ → ℤ → ℤ → ℤ → ℤ
weighted ws i a b c = nearest (row (get_or ws i (pos 0)) (get_or ws (i + 1) (pos 0)) (get_or ws (i + 2) (pos 0)) a b c) 8192

-- M15: "none, or for three components nine signed 16-bit numbers .., row by row"
unfoldable pub matrixed : Matrix → List ℤ → Pixel ℤ → Pixel ℤ
matrixed None ws p = p
matrixed On ws (single a) = single a
matrixed On ws (triple a b c) = triple (weighted ws 0 a b c) (weighted ws 3 a b c) (weighted ws 6 a b c)

-- M15: by the setting
unfoldable pub step_three : Setting → Pixel ℤ → Pixel ℤ
step_three s p = matrixed s.matrix s.weights p

-- ---- 4. residual

-- M16: "times 2^(Rb-Rr), rounded halves up if that is a fraction"
unfoldable pub scaled : ℕ → ℕ → ℤ → ℤ
scaled rb rr r = nearest (pos (2 ^ rb) *ℤ r) (2 ^ rr)

-- M16: "then identity or the transform of 1 with centre 2^(7+Rb), rounded, not clipped"
unfoldable pub step_four : Setting → Pixel ℤ → Pixel ℤ
step_four s p = recolour s.residual_transform (pos (2 ^ (7 + s.rb))) (each (scaled s.rb s.rr) p)

-- ---- 5. result

-- M17: "base plus residual minus 2^(7+Rb) .., clipped to 0 .. 2^(8+Rb)-1"
unfoldable pub added : ℕ → ℤ → ℤ → ℕ
added rb b r = clip (b +ℤ r -ℤ pos (2 ^ (7 + rb))) (top rb)

-- M18: "(without a residual, base alone)"
unfoldable pub alone : ℕ → ℤ → ℕ
alone rb b = clip b (top rb)

-- M17, M18: base and residual, or the base alone
unfoldable pub with_residual : Residual → ℕ → Pixel ℤ → Pixel ℤ → Pixel ℕ
with_residual Absent rb base residual = each (alone rb) base
with_residual Present rb base residual = both (added rb) base residual

-- M17: by the setting
unfoldable pub step_five : Setting → Pixel ℤ → Pixel ℤ → Pixel ℕ
step_five s base residual = with_residual s.residual s.rb base residual

-- ---- the steps joined

-- M15: the base after steps 1 to 3
unfoldable pub basis : Setting → List ℕ → Pixel ℤ → Pixel ℤ
basis s table p = step_three s (step_two s table (step_one s p))

-- M17: a pixel of the result, from the pixels of the base and of the residual
unfoldable pub merged : Setting → List ℕ → Pixel ℤ → Pixel ℤ → Pixel ℕ
merged s table base residual = step_five s (basis s table base) (step_four s residual)

-- the same setting with another curve
abbrev pub by_curve : Curve → Setting → Setting
by_curve k s =
    record {
      rb = s.rb;
      rh = s.rh;
      rr = s.rr;
      components = s.components;
      base_transform = s.base_transform;
      curve = k;
      matrix = s.matrix;
      weights = s.weights;
      residual = s.residual;
      residual_transform = s.residual_transform;
    }
