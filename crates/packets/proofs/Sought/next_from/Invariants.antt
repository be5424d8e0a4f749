-- What the loops of `packets::Sought::next_from` keep, and what goes down.
use Rattle.box_rules.specs.Walk.{steps_from, ending}
use Rattle.box_rules.specs.Packets.{mine_from}
use lib.ListN.{length}
use Prim.Native.Nat.{◌-◌, ◌≤◌}
use mathlib.Core.Path.{◌≡◌}
use Rattle.packets.proofs.Sought.next_from.Given as goal

abbrev pub invariant-loop-next : goal.invariant-loop-next
invariant-loop-next l = (mine_from l.self.file.now l.self.kind l.self.instance l.at ≡ mine_from l.self.file.now l.self.kind l.self.instance l.from) × (l.from ≤ l.at) × (ending (steps_from l.self.file.now l.from) ≡ ending (steps_from l.self.file.now l.at))

abbrev pub decreases-loop-next : goal.decreases-loop-next
decreases-loop-next l = length l.self.file.now - l.at
