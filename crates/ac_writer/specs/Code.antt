-- What the code's state stands for, and what it means that a task was begun and carried out.
use Rattle.std.specs.Prelude.{◌≡◌, Bool, List, ◌++◌, map, ℕ, ◌+◌, ◌≤◌, ◌<◌, ℤ, length, Option, Some, None}
use Rattle.bit_putter.specs.Code.{new_putter, Puts}
use Rattle.bit_rules.specs.Table.{Table}
use Rattle.plane_rules.specs.Task.{Task}
use Rattle.plane_rules.specs.AcWrite.{Kind, Token, raw, choose, tell, write_block}
use Rattle.ac_plan.specs.Code.{kinds_from}
use Rattle.bit_putter.specs.declared.Putter.{Putter}
use Rattle.ac_tasks.specs.Code.{task_of, open_of}
use Rattle.ac_pen.specs.Code.{Told}
use Rattle.ac_pen.specs.declared.Pen.{Pen}
use Rattle.ac_writer.specs.declared.State.{State}
use Rattle.ac_writer.specs.declared.Begun.{Begun}
use Rattle.ac_writer.specs.declared.Moved.{Moved}

-- a pen that has told nothing
abbrev pub new_pen : Pen
new_pen = record { putter = new_putter; lack = None }

-- the task at a position was chosen, and told if none was open
pub record Begins (T : Table) (before after : List ℕ) (s : State) (r : Begun) (kinds : List Kind) (later : List (List Kind)) : Type 0 where
  pub job : task_of r.job ≡ choose (open_of s.task) kinds later
  pub told : Told T before after s.pen r.pen (tell (open_of s.task) (choose (open_of s.task) kinds later))

-- from position i on, with task o open, these bits were put and the code came to position j and o': the block is those bits and what is left of it
pub record Carries (before after : List ℕ) (p r : Putter) (block : List ℤ) (o o' : Option Task) (i j : ℕ) : Type 0 where
  pub bits : List Bool
  pub put : Puts before after p r bits
  pub few : length bits + i ≤ j
  pub same : (later : List (List Kind))
      → write_block o (kinds_from block i) later ≡ (map raw bits ++ (write_block o' (kinds_from block j) later).0, (write_block o' (kinds_from block j) later).1)

-- the same of a pen and a task
pub record Works (before after : List ℕ) (p : Pen) (t : Task) (from : ℕ) (block : List ℤ) (r : Moved) : Type 0 where
  pub carried : Carries before after p.putter r.pen.putter block (Some t) (open_of r.task) from r.at
  pub lack : r.pen.lack ≡ p.lack
  pub on : from < r.at

-- tokens were told, and this task is open then
pub record Moves (T : Table) (before after : List ℕ) (s r : State) (move : List Token × Option Task) : Type 0 where
  pub told : Told T before after s.pen r.pen move.0
  pub task : open_of r.task ≡ move.1
