-- What is behind a record, from the parts that the code makes it of. Assumes nothing.
use mathlib.Core.Path.{◌≡◌, refl, ap}
use mathlib.Core.Bool.{Bool, true, false}
use mathlib.Core.List.{List}
use Prim.Native.Nat.{ℕ, ◌-◌, ◌<◌}
use native.Mathlib.Omega.{arith}
use Rattle.test_rules.specs.Fields.{number_at}
use Rattle.test_rules.specs.declared.Finding.{Finding}
use Rattle.test_rules.specs.declared.Run.{Run}
use Rattle.test_rules.specs.Runs.{counted, goes_on, moved, next_run}

pub next_run_is : (bytes : List ℕ) (r : Run) (ran : Finding) {k : Run} {group : ℕ} {same : Bool} → k ≡ counted r ran.good → group ≡ number_at bytes ran.next → same ≡ goes_on k.left k.group group → moved same k ran.next group ≡ next_run bytes r ran
unfolding next_run
next_run_is bytes r ran e f g = rw (g, e, f)

-- so a loop over records ends
counted_left : (r : Run) (good : Bool) → (counted r good).left ≡ r.left - 1
unfolding counted
counted_left r true = refl
counted_left r false = refl

next_run_left : (bytes : List ℕ) (r : Run) (ran : Finding) → (next_run bytes r ran).left ≡ r.left - 1
unfolding next_run moved
next_run_left bytes r ran = counted_left r ran.good

pub next_run_less : (bytes : List ℕ) (r : Run) (ran : Finding) {s : Run} → s ≡ next_run bytes r ran → 0 < r.left → s.left < r.left
next_run_less bytes r ran e h = omega (arith, ap (λ t. t.left) e, next_run_left bytes r ran)
