-- M12 and M13: the base curve of the merge, step 2.
use Rattle.std.specs.Prelude.{List, ℕ, ◌+◌, ◌*◌, ◌^◌, ℤ, pos, get_or}
use Rattle.merge_rules.specs.Near.{nearest, top}
use Rattle.merge_rules.specs.declared.Curve.{Curve}
use Rattle.merge_rules.specs.declared.Curve.TheVariants.{Straight, Table, Srgb}
use Rattle.merge_rules.specs.Srgb.{srgb}

-- M12: "straight, nearest to x(2^(8+Rb)-1)/(2^(8+Rh)-1)"
unfoldable pub straight : ℕ → ℕ → ℕ → ℤ
straight rb rh x = nearest (pos (x * top rb)) (top rh)

-- M12, M13: "straight ..; a lent table of 2^(8+Rh) numbers ..; or the inverse sRGB table"
unfoldable pub curved : Curve → ℕ → ℕ → List ℕ → ℕ → ℤ
curved Straight rb rh table x = straight rb rh x
curved Table rb rh table x = pos (get_or table x 0)
curved Srgb rb rh table x = pos (get_or srgb x 0)

-- M5: "a lent table of 2^(8+Rh) numbers", and no other curve has one
unfoldable pub entries : Curve → ℕ → ℕ
entries Straight rh = 0
entries Table rh = 2 ^ (8 + rh)
entries Srgb rh = 0
