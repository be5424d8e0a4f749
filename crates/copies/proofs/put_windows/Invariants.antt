-- What the loops of `copies::put_windows` keep, and what goes down.
use Rattle.copies.proofs.Puts.{Writing}
use Rattle.box_rules.specs.Box.{joined_from, joined}
use Rattle.scans.specs.Code.{mine_of}
use lib.ListN.{length}
use Prim.Native.Nat.{◌+◌, ◌-◌, ◌≤◌}
use mathlib.Core.Path.{◌≡◌}
use Rattle.copies.proofs.put_windows.Given as goal

abbrev pub invariant-loop-passed : goal.invariant-loop-passed
invariant-loop-passed l = Writing l.destination l.to (joined_from (l.n - l.passed) (l.passed + 1) (mine_of l.sought.file.now l.sought.kind l.sought.instance)) l.initial.destination 0 (joined (mine_of l.sought.file.now l.sought.kind l.sought.instance)) × (l.passed ≤ l.n) × (length l.places ≡ length l.initial.places)

abbrev pub decreases-loop-passed : goal.decreases-loop-passed
decreases-loop-passed l = l.n - l.passed
