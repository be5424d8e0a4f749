-- M1 to M3, M5 and M7: what a merge may be set to and must be lent, the tests behind its refusals 20, 21 and 11.
use Rattle.std.specs.Prelude.{Bool, true, false, cond, not, List, [], ◌∷◌, ℕ, ◌*◌, eqb, leb, ℤ, length, get_or}
use Rattle.laws.specs.Index.{every}
use Rattle.merge_rules.specs.declared.Curve.{Curve}
use Rattle.merge_rules.specs.declared.Curve.TheVariants.{Straight, Table, Srgb}
use Rattle.merge_rules.specs.Curves.{entries}
use Rattle.merge_rules.specs.declared.Setting.{Setting}
use Rattle.merge_rules.specs.declared.Colour.{Colour}
use Rattle.merge_rules.specs.declared.Colour.TheVariants.{Identity, Transform}
use Rattle.merge_rules.specs.declared.Matrix.{Matrix}
use Rattle.merge_rules.specs.declared.Matrix.TheVariants.{None, On}
use Rattle.merge_rules.specs.declared.Residual.{Residual}
use Rattle.merge_rules.specs.declared.Residual.TheVariants.{Absent, Present}

-- ---- 20: "setting or count outside this paper's ranges, or barred by a step", settings that are not used as well

-- M1: "one or three components"
abbrev pub one_or_three : ℕ → Bool
one_or_three c = cond (eqb c 1) true (eqb c 3)

-- N14, M1: "Rb 1 to 8; Rh and Rr .. 0 to 4; .. 0 to 65,536 pixels a merge; one or three components"
unfoldable pub in_ranges : Setting → ℕ → Bool
in_ranges s pixels = every (leb 1 s.rb ∷ leb s.rb 8 ∷ leb s.rh 4 ∷ leb s.rr 4 ∷ one_or_three s.components ∷ leb pixels 65536 ∷ [])

-- M2: a transform, and not the identity
abbrev pub is_transform : Colour → Bool
is_transform Identity = false
is_transform Transform = true

-- M2: a matrix is there
abbrev pub is_on : Matrix → Bool
is_on None = false
is_on On = true

-- M3: the inverse sRGB table
abbrev pub is_srgb : Curve → Bool
is_srgb Straight = false
is_srgb Table = false
is_srgb Srgb = true

-- M2: "One component with a transform or matrix is 20"
unfoldable pub plain : Setting → Bool
plain s =
    cond (eqb s.components 1)
    (every (not (is_transform s.base_transform) ∷ not (is_transform s.residual_transform) ∷ not (is_on s.matrix) ∷ []))
    true

-- M3: "the inverse sRGB table, only at Rh 0 and Rb 8, else 20"
unfoldable pub srgb_allowed : Setting → Bool
srgb_allowed s = cond (is_srgb s.curve) (every (eqb s.rh 0 ∷ eqb s.rb 8 ∷ [])) true

-- ---- 21: "a lent input's length is not what the counts ask (..; an input not used must be empty)"

-- M5: samples of a picture
abbrev pub samples : Setting → ℕ → ℕ
samples s pixels = s.components * pixels

-- M5: "Residual, if present"
unfoldable pub residual_count : Residual → ℕ → ℕ
residual_count Absent count = 0
residual_count Present count = count

-- N13, M5: base, residual and table are as long as the setting asks
unfoldable pub lengths_right : Setting → ℕ → List ℤ → List ℤ → List ℕ → Bool
lengths_right s pixels base residual table =
    every (
    eqb (length base) (samples s pixels)
    ∷ eqb (length residual) (residual_count s.residual (samples s pixels))
    ∷ eqb (length table) (entries s.curve s.rh)
    ∷ [])

-- ---- 11: "each at most 2^(8+Rb)-1, else 11"

-- M7: entry i of the lent table is at most this
unfoldable pub entry_right : ℕ → List ℕ → ℕ → Bool
entry_right most table i = leb (get_or table i 0) most
