-- What the loop of `ac_steps::walk` keeps.
use mathlib.Core.Path.{◌≡◌}
use Rattle.std.specs.Prelude.{Some}
use Rattle.bits.specs.Code.{bits_in}
use Rattle.plane_rules.specs.Task as task
use Rattle.ac_values.specs.Code.{aim}
use Rattle.ac_steps.specs.Code.{Carries}
use Rattle.ac_steps.proofs.walk.Given as goal

abbrev pub invariant-loop-i : goal.invariant-loop-i
invariant-loop-i l = record { carried : Carries l.values l.initial.destination l.destination (Some (task.walk l.zeros (aim l.leave l.sign))) (Some (task.walk l.n (aim l.leave l.sign))) (bits_in l.initial.r) (bits_in l.here) l.from l.i; kept : bits_in l.r ≡ bits_in l.initial.r }
