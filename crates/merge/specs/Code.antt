-- What the tests of a merge in code come to.
use Rattle.answers.specs.declared.Refusal.{Refusal}
use Rattle.std.specs.Prelude.{◌≡◌, List, ℕ, ◌≤◌, ℤ, length, Result, Ok}
use Rattle.answers.specs.Verdict.{given, outcome_of}
use Rattle.merge_rules.specs.declared.Setting.{Setting}
use Rattle.merge_rules.specs.Settings.{samples}
use Rattle.merge_rules.specs.Picture.{merge_tests}
use Rattle.settings.specs.Code.{Passed}

-- the outcome is that of the tests in front of any result of the right length; where they are passed, inputs and room are as they should be
pub record Tested (s : Setting) (pixels : ℕ) (base residual : List ℤ) (table : List ℕ) (room : ℕ) (o : Result ℕ Refusal) : Type 0 where
  pub told : (result : List ℕ) → length result ≡ samples s pixels → o ≡ outcome_of (merge_tests s pixels base residual table room result)
  pub passed : (count : ℕ) → o ≡ Ok count → Passed s pixels base residual table
  pub fits : (count : ℕ) → o ≡ Ok count → samples s pixels ≤ room
  pub hands : (count : ℕ) → o ≡ Ok count → (result : List ℕ) → length result ≡ samples s pixels
      → merge_tests s pixels base residual table room result ≡ given result
