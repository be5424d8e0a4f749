-- What the loop of `records::values_at` keeps.
use Rattle.test_rules.specs.Fields.{lowered, number_at, value_at}
use Rattle.records.proofs.Lists.{Reading}
use Rattle.records.proofs.values_at.Given as goal

abbrev pub invariant-loop-value : goal.invariant-loop-value
invariant-loop-value l = Reading (λ p. lowered (number_at l.bytes p)) (value_at l.bytes l.at) 4 l.initial.list l.list l.next l.value-index
