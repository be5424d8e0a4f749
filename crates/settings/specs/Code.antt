-- What the loops in code ask of settings and inputs.
use Rattle.std.specs.Prelude.{◌≡◌, true, List, ℕ, ◌≤◌, ℤ, length}
use Rattle.merge_rules.specs.declared.Curve.TheVariants.{Srgb}
use Rattle.merge_rules.specs.Curves.{entries}
use Rattle.merge_rules.specs.declared.Setting.{Setting}
use Rattle.merge_rules.specs.declared.Residual.TheVariants.{Present}
use Rattle.basis.specs.Code.{Ready}
use Rattle.merge_rules.specs.Settings.{one_or_three, samples}

-- the ranges of 20
pub record Ranged (s : Setting) (pixels : ℕ) : Type 0 where
  pub rb_small : s.rb ≤ 8
  pub rh_small : s.rh ≤ 4
  pub rr_small : s.rr ≤ 4
  pub components_right : one_or_three s.components ≡ true
  pub pixels_few : pixels ≤ 65536

-- what 20 and 21 leave: settings in their ranges, and inputs as long as they ask
pub record Passed (s : Setting) (pixels : ℕ) (base residual : List ℤ) (table : List ℕ) : Type 0 where
  pub ranged : Ranged s pixels
  pub plain : s.curve ≡ Srgb → s.rh ≡ 0
  pub base_long : length base ≡ samples s pixels
  pub residual_long : s.residual ≡ Present → length residual ≡ samples s pixels
  pub table_long : length table ≡ entries s.curve s.rh

-- the same, and a table that the curve can go by
pub record Lending (s : Setting) (pixels : ℕ) (base residual : List ℤ) (table : List ℕ) : Type 0 where
  pub ranged : Ranged s pixels
  pub ready : Ready s table
  pub base_long : length base ≡ samples s pixels
  pub residual_long : s.residual ≡ Present → length residual ≡ samples s pixels
