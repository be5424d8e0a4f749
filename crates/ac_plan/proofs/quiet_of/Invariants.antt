-- What the loop of `ac_plan::quiet_of` keeps.
use Rattle.ac_plan.proofs.Looking.{Passed}
use Rattle.ac_plan.proofs.quiet_of.Given as goal

abbrev pub invariant-loop-n : goal.invariant-loop-n
invariant-loop-n l = Passed l.blocks l.later l.n
