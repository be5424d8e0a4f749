-- What the loop of `ac_writer::walk` keeps.
use mathlib.Core.Bool.{Bool}
use Rattle.std.specs.Prelude.{Option, Some}
use Rattle.plane_rules.specs.Task as task
use Rattle.ac_writer.specs.Code.{Carries}
use Rattle.ac_writer.proofs.walk.Given as goal

abbrev pub invariant-loop-i : goal.invariant-loop-i
invariant-loop-i l = (sign : Option Bool) → Carries l.initial.destination l.destination l.initial.q l.q l.block (Some (task.walk l.zeros sign)) (Some (task.walk l.n sign)) l.from l.i
