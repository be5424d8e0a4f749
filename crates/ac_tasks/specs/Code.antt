-- What the code's tasks stand for.
use Rattle.std.specs.Prelude.{List, ℤ, Option, Some, None}
use Rattle.plane_rules.specs.Task.{Task, walk, ended}
use Rattle.ac_tasks.specs.declared.Job.{Job}
use Rattle.ac_tasks.specs.declared.Job.TheVariants.{Leave, Set, Ended}

abbrev pub task_of : Job → Task
task_of (Leave n) = walk n None
task_of (Set n sign) = walk n (Some sign)
task_of (Ended n) = ended n

abbrev pub open_of : Option Job → Option Task
open_of None = None
open_of (Some job) = Some (task_of job)

-- a block that was read: these are its new values, and this is open behind it
abbrev pub block_of : List ℤ → Option Job → List ℤ × Option Task
block_of values task = (values, open_of task)
