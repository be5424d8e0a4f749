-- What the loops of `segments::past_ones` keep, and what goes down.
use Prim.Native.Nat.{◌+◌, ◌-◌}
use mathlib.Core.Path.{◌≡◌}
use lib.ListN.{length, drop}
use Rattle.box_rules.specs.Walk.{ones}
use Rattle.segments.proofs.past_ones.Given as goal

abbrev pub invariant-loop-m : goal.invariant-loop-m
invariant-loop-m l = l.m + ones (drop l.m l.file) ≡ l.at + ones (drop l.at l.file)

abbrev pub decreases-loop-m : goal.decreases-loop-m
decreases-loop-m l = length l.file - l.m
