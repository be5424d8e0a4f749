-- The task that is planned. Assumes nothing.
use mathlib.Core.Path.{◌≡◌}
use mathlib.Core.Bool.{Bool}
use mathlib.Core.List.{List}
use Prim.Native.Nat.{ℕ, ◌≤◌, ◌<◌}
use native.Mathlib.Omega.{arith}
use borrow.Author.Tests.{lt-ltb, le-ltb}
use Rattle.plane_rules.specs.AcWrite.{Kind, ahead, quiet, plan}
use Rattle.ac_plan.specs.declared.Coming.{Coming}
use Rattle.ac_tasks.specs.declared.Job.TheVariants.{Leave, Set, Ended}
use Rattle.std.specs.Prelude.{Option, Some, None}
use Rattle.ac_plan.specs.Code.{coming_is, Planned}

-- ---- the task planned by what is coming

module _ (kinds : List Kind) (later : List (List Kind)) (c : Option Coming) (e : coming_is c ≡ ahead kinds) where
  pub plan_set : {zeros : ℕ} {b : Bool} → c ≡ Some (record { zeros = zeros; positive = b }) → zeros < 16 → Planned (Set zeros b) (plan kinds later)
  unfolding plan coming_is
  plan_set {zeros} q h = record { same = rw (← e, q, lt-ltb zeros 16 h); short = h }

  pub plan_leave : {zeros : ℕ} {b : Bool} → c ≡ Some (record { zeros = zeros; positive = b }) → 16 ≤ zeros → Planned (Leave 15) (plan kinds later)
  unfolding plan coming_is
  plan_leave {zeros} q h = record { same = rw (← e, q, le-ltb zeros 16 h); short = omega arith }

  pub plan_ended : {n : ℕ} → c ≡ None → n ≡ quiet later → n ≤ 1024 → Planned (Ended n) (plan kinds later)
  unfolding plan coming_is
  plan_ended q f h = record { same = rw (← e, q, f); short = h }
