-- What the loops of `packets::walk_end` keep, and what goes down.
use Rattle.box_rules.specs.Walk.{steps_from, ending}
use lib.ListN.{length}
use Prim.Native.Nat.{◌-◌}
use mathlib.Core.Path.{◌≡◌}
use Rattle.packets.proofs.walk_end.Given as goal

abbrev pub invariant-loop-r : goal.invariant-loop-r
invariant-loop-r l = ending (steps_from l.file l.at) ≡ ending (steps_from l.file l.from)

abbrev pub decreases-loop-r : goal.decreases-loop-r
decreases-loop-r l = length l.file - l.at
