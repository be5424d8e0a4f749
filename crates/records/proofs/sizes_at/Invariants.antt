-- What the loop of `records::sizes_at` keeps.
use Rattle.test_rules.specs.Fields.{pair_at, size_at}
use Rattle.records.proofs.Lists.{Reading}
use Rattle.records.proofs.sizes_at.Given as goal

abbrev pub invariant-loop-size : goal.invariant-loop-size
invariant-loop-size l = Reading (pair_at l.bytes) (size_at l.bytes l.at) 2 l.initial.list l.list l.next l.size-index
