-- What the loop of `ac_plan::ahead_of` keeps.
use Rattle.ac_plan.proofs.Looking.{Looked}
use Rattle.ac_plan.proofs.ahead_of.Given as goal

abbrev pub invariant-loop-i : goal.invariant-loop-i
invariant-loop-i l = Looked l.block l.from l.zeros l.i
