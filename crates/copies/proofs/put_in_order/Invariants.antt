-- What the loops of `copies::put_in_order` keep, and what goes down.
use Rattle.copies.proofs.Puts.{Writing}
use Rattle.box_rules.specs.Order.{payloads}
use Rattle.scans.specs.Code.{mine_of}
use Rattle.box_rules.specs.Packets.{mine_from}
use lib.ListN.{length}
use Prim.Native.Nat.{◌-◌}
use Rattle.copies.proofs.put_in_order.Given as goal

abbrev pub invariant-loop-here : goal.invariant-loop-here
invariant-loop-here l = Writing l.destination l.to (payloads (mine_from l.sought.file.now l.sought.kind l.sought.instance l.at)) l.initial.destination 0 (payloads (mine_of l.sought.file.now l.sought.kind l.sought.instance))

abbrev pub decreases-loop-here : goal.decreases-loop-here
decreases-loop-here l = length l.sought.file.now - l.at
