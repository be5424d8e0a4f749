-- What the loops of `numbers::past_all` keep, and what goes down.
use Rattle.box_rules.specs.Numbers.{numbers_from, count}
use lib.ListN.{length}
use Prim.Native.Nat.{ℕ, ◌-◌, ◌≤◌}
use mathlib.Core.Path.{◌≡◌}
use Rattle.numbers.proofs.past_all.Given as goal

abbrev pub invariant-loop-head : goal.invariant-loop-head
invariant-loop-head l = (l.m ≤ 4294967296) × ((q : ℕ) → l.m ≤ q → count q (numbers_from l.sought.file.now l.sought.kind l.sought.instance l.at) ≡ count q (numbers_from l.sought.file.now l.sought.kind l.sought.instance 2))

abbrev pub decreases-loop-head : goal.decreases-loop-head
decreases-loop-head l = length l.sought.file.now - l.at
