-- What the loop of `codes::put_numbers` keeps.
use Rattle.codes.proofs.Filling.{Filling}
use Rattle.codes.proofs.put_numbers.Given as goal

abbrev pub invariant-loop-l : goal.invariant-loop-l
invariant-loop-l l = Filling l.counts l.numbers l.code l.position l.l
