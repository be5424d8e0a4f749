-- What the loops of `numbers::window_end` keep, and what goes down.
use Rattle.box_rules.specs.Numbers.{numbers_from, between}
use Prim.Native.Nat.{◌+◌, ◌-◌, ◌≤◌, ◌<◌}
use mathlib.Core.Path.{◌≡◌}
use Rattle.numbers.proofs.window_end.Given as goal

abbrev pub invariant-loop-good : goal.invariant-loop-good
invariant-loop-good l = (l.lo < l.good) × (l.good ≤ l.bad) × (l.bad ≤ l.top) × ((l.good ≡ l.lo + 1 → ⊥) → between l.lo l.good (numbers_from l.sought.file.now l.sought.kind l.sought.instance 2) ≤ l.cap)

abbrev pub decreases-loop-good : goal.decreases-loop-good
decreases-loop-good l = l.bad - l.good
