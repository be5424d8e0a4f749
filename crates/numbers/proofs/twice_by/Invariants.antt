-- What the loops of `numbers::twice_by` keep, and what goes down.
use Rattle.box_rules.specs.Numbers.{numbers_from, count}
use lib.ListN.{length}
use Prim.Native.Nat.{ℕ, ◌-◌, ◌≤◌, ◌<◌}
use mathlib.Core.Path.{◌≡◌}
use Rattle.numbers.proofs.twice_by.Given as goal

abbrev pub invariant-loop-lo : goal.invariant-loop-lo
invariant-loop-lo l = ((j : ℕ) → j < l.lo → count j (numbers_from l.sought.file.now l.sought.kind l.sought.instance 2) ≤ 1) × (length l.held ≡ length l.initial.held)

abbrev pub decreases-loop-lo : goal.decreases-loop-lo
decreases-loop-lo l = l.top - l.lo
