-- What the loops of `numbers::gather` keep, and what goes down.
use Rattle.numbers.proofs.Chosen.{Gathering}
use Rattle.box_rules.specs.Numbers.{numbers_from}
use lib.ListN.{length}
use Prim.Native.Nat.{◌-◌}
use Rattle.numbers.proofs.gather.Given as goal

abbrev pub invariant-loop-head : goal.invariant-loop-head
invariant-loop-head l = Gathering l.lo l.hi (numbers_from l.sought.file.now l.sought.kind l.sought.instance 2) (numbers_from l.sought.file.now l.sought.kind l.sought.instance l.at) l.held l.initial.held l.k

abbrev pub decreases-loop-head : goal.decreases-loop-head
decreases-loop-head l = length l.sought.file.now - l.at
