-- What the loops of `windows::locate` keep, and what goes down.
use Rattle.windows.proofs.Places.{Locating}
use lib.ListN.{length}
use Prim.Native.Nat.{◌-◌}
use Rattle.windows.proofs.locate.Given as goal

abbrev pub invariant-loop-head : goal.invariant-loop-head
invariant-loop-head l = Locating l.sought.file.now l.sought.kind l.sought.instance l.passed l.places l.initial.places l.at

abbrev pub decreases-loop-head : goal.decreases-loop-head
decreases-loop-head l = length l.sought.file.now - l.at
