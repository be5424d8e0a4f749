-- What the loop of `ac_writer::rest` keeps.
use Rattle.std.specs.Prelude.{Some}
use Prim.Native.Nat.{ℕ}
use Rattle.plane_rules.specs.Task as task
use Rattle.ac_writer.specs.Code.{Carries}
use Rattle.ac_writer.proofs.rest.Given as goal

abbrev pub invariant-loop-i : goal.invariant-loop-i
invariant-loop-i l = (n : ℕ) → Carries l.initial.destination l.destination l.initial.q l.q l.block (Some (task.ended n)) (Some (task.ended n)) l.from l.i
