-- What the loops of `scans::scan_all` keep, and what goes down.
use Rattle.scans.proofs.Passes.{Passing}
use lib.ListN.{length}
use Prim.Native.Nat.{◌-◌}
use Rattle.scans.proofs.scan_all.Given as goal

abbrev pub invariant-loop-here : goal.invariant-loop-here
invariant-loop-here l = Passing l.sought.file.now l.sought.kind l.sought.instance l.h l.s

abbrev pub decreases-loop-here : goal.decreases-loop-here
decreases-loop-here l = length l.sought.file.now - l.s.end
