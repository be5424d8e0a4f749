-- What the loops of `windows::missing_by` keep, and what goes down.
use Rattle.box_rules.specs.Numbers.{numbers_from, missing_from}
use lib.ListN.{length}
use mathlib.Core.Path.{◌≡◌}
use Prim.Native.Nat.{◌+◌, ◌-◌, ◌≤◌}
use Rattle.windows.proofs.missing_by.Given as goal

abbrev pub invariant-loop-passed : goal.invariant-loop-passed
invariant-loop-passed l = (missing_from (l.n - l.passed) (l.passed + 1) (numbers_from l.sought.file.now l.sought.kind l.sought.instance 2) ≡ missing_from l.n 1 (numbers_from l.sought.file.now l.sought.kind l.sought.instance 2)) × (l.passed ≤ l.n) × (length l.places ≡ length l.initial.places)

abbrev pub decreases-loop-passed : goal.decreases-loop-passed
decreases-loop-passed l = l.n - l.passed
