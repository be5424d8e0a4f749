-- What the loops of `numbers::count_between` keep, and what goes down.
use Rattle.box_rules.specs.Numbers.{numbers_from, between}
use lib.ListN.{length}
use Prim.Native.Nat.{◌+◌, ◌-◌, ◌≤◌}
use mathlib.Core.Path.{◌≡◌}
use Rattle.numbers.proofs.count_between.Given as goal

abbrev pub invariant-loop-head : goal.invariant-loop-head
invariant-loop-head l = (l.n + between l.lo l.hi (numbers_from l.sought.file.now l.sought.kind l.sought.instance l.at) ≡ between l.lo l.hi (numbers_from l.sought.file.now l.sought.kind l.sought.instance 2)) × (l.n ≤ l.at)

abbrev pub decreases-loop-head : goal.decreases-loop-head
decreases-loop-head l = length l.sought.file.now - l.at
