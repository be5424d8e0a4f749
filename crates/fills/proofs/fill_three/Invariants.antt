-- What the loop of `fills::fill_three` keeps.
use Rattle.fills.proofs.Filling.{Filling}
use Rattle.fills.proofs.fill_three.Given as goal

abbrev pub invariant-loop-p : goal.invariant-loop-p
invariant-loop-p l = Filling l.s l.pixels l.base l.residual l.table l.initial.destination l.destination l.p
