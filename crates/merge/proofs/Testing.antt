-- The tests of a merge, once for whatever result stands behind them. Assumes nothing.
use mathlib.Core.Path.{◌≡◌, sym, ap, ◌∙◌}
use mathlib.Core.List.{List, ◌++◌}
use Prim.Native.Nat.{ℕ, ◌≤◌}
use lib.IntN.{ℤ}
use lib.ListN.{length, drop}
use Rattle.answers.specs.Verdict.{Verdict, given, refused, outcome_of, leaves, Tried}
use Rattle.answers.proofs.Laws.{never_given}
use Rattle.answers.specs.declared.Refusal.{Refusal}
use Rattle.std.specs.Prelude.{Result, Ok, Err}
use Rattle.merge_rules.specs.declared.Setting.{Setting}
use Rattle.merge_rules.specs.Settings.{samples}
use Rattle.merge_rules.specs.Picture.{merge_tests}
use Rattle.settings.specs.Code.{Passed}
use Rattle.merge.specs.Code.{Tested}

module _ {s : Setting} {n : ℕ} {base residual : List ℤ} {table : List ℕ} {room : ℕ} {o : (Result ℕ Refusal)} where
  pub tests_refused : {r : Refusal} → o ≡ Err r → ((result : List ℕ) → length result ≡ samples s n → merge_tests s n base residual table room result ≡ refused r)
      → Tested s n base residual table room o
  tests_refused e h = record {
    told = λ result l. e ∙ sym (ap outcome_of (h result l));
    passed = λ count g. absurd (never_given (sym e ∙ g));
    fits = λ count g. absurd (never_given (sym e ∙ g));
    hands = λ count g. absurd (never_given (sym e ∙ g));
  }

  pub tests_passed : o ≡ Ok (samples s n) → Passed s n base residual table → samples s n ≤ room
      → ((result : List ℕ) → length result ≡ samples s n → merge_tests s n base residual table room result ≡ given result) → Tested s n base residual table room o
  tests_passed e p f h = record {
    told = λ result l. e ∙ sym (ap outcome_of (h result l) ∙ ap Ok l);
    passed = λ count g. p;
    fits = λ count g. f;
    hands = λ count g. h;
  }

  -- a picture behind its tests
  module _ {z : ℕ} {before after : List ℕ} (t : Tested s n base residual table room o) (ys : List ℕ) (long : length ys ≡ samples s n) where
    pub tried_tests : {r : Refusal} → o ≡ Err r → Tried z (merge_tests s n base residual table room ys) before after o
    tried_tests e = record { came = t.told ys long; held = λ count g. absurd (never_given (sym e ∙ g)) }

    pub tried_result : {count : ℕ} → o ≡ Ok count → after ≡ ys ++ drop (samples s n) before → Tried z (merge_tests s n base residual table room ys) before after o
    tried_result {count} e h = record {
      came = t.told ys long;
      held = λ m g. h ∙ sym (ap (λ (v : Verdict ℕ). leaves z v before) (t.hands count e ys long) ∙ ap (λ (k : ℕ). ys ++ drop k before) long);
    }
