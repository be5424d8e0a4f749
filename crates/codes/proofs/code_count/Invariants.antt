-- What the loop of `codes::code_count` keeps.
use Rattle.bit_rules.proofs.Tables.{Summed}
use Rattle.codes.proofs.code_count.Given as goal

abbrev pub invariant-loop-n : goal.invariant-loop-n
invariant-loop-n l = Summed l.counts l.sum l.n-index
