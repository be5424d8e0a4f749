-- What the loop of `codes::kraft_of` keeps.
use Rattle.bit_rules.proofs.Tables.{Weighed}
use Rattle.codes.proofs.kraft_of.Given as goal

abbrev pub invariant-loop-n : goal.invariant-loop-n
invariant-loop-n l = Weighed l.counts l.sum l.weight l.n-index
