-- What the loops of `listing_text::put_lines` keep, and what goes down.
use Rattle.box_rules.specs.Walk.{steps_from}
use Rattle.box_rules.specs.Packets.{packets_in}
use Rattle.box_rules.specs.Text.{lines}
use Rattle.listing_text.proofs.Writes.{Going}
use lib.ListN.{length}
use Prim.Native.Nat.{◌+◌, ◌*◌, ◌-◌, ◌≤◌}
use Rattle.listing_text.proofs.put_lines.Given as goal

abbrev pub invariant-loop-next : goal.invariant-loop-next
invariant-loop-next l = Going l.out l.to (lines (packets_in l.file (steps_from l.file l.pos))) l.initial.out l.at (lines (packets_in l.file (steps_from l.file 2))) × (l.to ≤ l.at + 72 * l.pos) × (l.pos ≤ length l.file + 2)

abbrev pub decreases-loop-next : goal.decreases-loop-next
decreases-loop-next l = length l.file - l.pos
