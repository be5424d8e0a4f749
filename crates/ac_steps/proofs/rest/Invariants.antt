-- What the loop of `ac_steps::rest` keeps.
use Rattle.std.specs.Prelude.{Some}
use Rattle.bits.specs.Code.{bits_in}
use Rattle.plane_rules.specs.Task as task
use Rattle.ac_steps.specs.Code.{Carries}
use Rattle.ac_steps.proofs.rest.Given as goal

abbrev pub invariant-loop-i : goal.invariant-loop-i
invariant-loop-i l = Carries l.values l.initial.destination l.destination (Some (task.ended l.n)) (Some (task.ended l.n)) (bits_in l.initial.here) (bits_in l.here) l.from l.i
