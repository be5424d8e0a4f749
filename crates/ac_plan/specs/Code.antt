-- What the code's answers about AC values stand for.
use Rattle.std.specs.Prelude.{◌≡◌, Bool, List, map, ℕ, ◌≤◌, ◌<◌, ℤ, drop, Option, Some, None}
use Rattle.plane_rules.specs.Task.{Task}
use Rattle.plane_rules.specs.AcRead.{cut}
use Rattle.plane_rules.specs.AcWrite.{Kind, keep, still, fresh, kind_of}
use Rattle.ac_plan.specs.declared.Coming.{Coming}
use Rattle.ac_tasks.specs.Code.{task_of}
use Rattle.ac_tasks.specs.declared.Job.{Job}
use Rattle.ac_tasks.specs.declared.Job.TheVariants.{Leave, Set, Ended}
use Rattle.ac_plan.specs.declared.Change.{Change}
use Rattle.ac_plan.specs.declared.Change.TheVariants.{Kept, Still, Fresh}

-- ---- values as kinds

-- the kinds of a block's values from a position on
unfoldable pub kinds_from : List ℤ → ℕ → List Kind
kinds_from block i = map kind_of (drop i block)

-- those of whole blocks
unfoldable pub kind_blocks : ℕ → List ℤ → List (List Kind)
kind_blocks blocks values = map (map kind_of) (cut blocks values)

-- ---- the code's types

unfoldable pub kind_is : Change → Kind
kind_is (Kept b) = keep b
kind_is Still = still
kind_is (Fresh b) = fresh b

-- 1 for a zero that stays
abbrev pub still_is : Kind → ℕ
still_is (keep b) = 0
still_is still = 1
still_is (fresh b) = 0

unfoldable pub coming_is : Option Coming → Option (ℕ × Bool)
coming_is (Some c) = Some (c.zeros, c.positive)
coming_is None = None

-- a job that a code can tell
abbrev pub Short : Job → Type 0
Short (Leave n) = n < 16
Short (Set n sign) = n < 16
Short (Ended n) = n ≤ 1024

-- the code's job is the task of the definition
pub record Planned (job : Job) (task : Task) : Type 0 where
  pub same : task_of job ≡ task
  pub short : Short job
