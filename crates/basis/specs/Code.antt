-- What the code's struct stands for, and what its steps ask of a setting.
use Rattle.std.specs.Prelude.{ℕ, ◌≤◌, ℤ, nat_abs, List}
use Rattle.basis.specs.declared.Three.{Three}
use Rattle.merge_rules.specs.Pixels.{Pixel, triple}
use Rattle.curves.specs.Code.{There}
use Rattle.merge_rules.specs.declared.Setting.{Setting}

-- what the code's struct stands for
abbrev pub three_of : Three → Pixel ℤ
three_of t = triple t.first t.second t.third

-- three numbers, none of a magnitude above most
pub record Bounded (most : ℕ) (t : Three) : Type 0 where
  pub first_small : nat_abs t.first ≤ most
  pub second_small : nat_abs t.second ≤ most
  pub third_small : nat_abs t.third ≤ most

pub record Ready (s : Setting) (table : List ℕ) : Type 0 where
  pub rb_small : s.rb ≤ 8
  pub rh_small : s.rh ≤ 4
  pub rr_small : s.rr ≤ 4
  pub there : There s.curve s.rh table
