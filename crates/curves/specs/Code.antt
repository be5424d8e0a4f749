-- What the curve in code asks, and what its table is made of.
use Rattle.std.specs.Prelude.{◌≡◌, List, ℕ, ◌<◌, ◌≤◌, pos, length, get_or}
use Rattle.merge_rules.specs.declared.Curve.{Curve}
use Rattle.merge_rules.specs.declared.Curve.TheVariants.{Srgb}
use Rattle.merge_rules.specs.Srgb.{srgb}
use Rattle.merge_rules.specs.Curves.{entries, straight}

-- a table that is long enough, and the inverse sRGB table itself for that curve, "only at Rh 0"
pub record There (curve : Curve) (rh : ℕ) (table : List ℕ) : Type 0 where
  pub long : entries curve rh ≤ length table
  pub plain : curve ≡ Srgb → rh ≡ 0
  pub itself : curve ≡ Srgb → table ≡ srgb

-- the straight curve at each number below n
pub record Tones (rb rh n : ℕ) (tones : List ℕ) : Type 0 where
  pub at : (x : ℕ) → x < n → pos (get_or tones x 0) ≡ straight rb rh x
