-- `packets::walk_all` meets its contract.
use Rattle.box_rules.specs.Walk.{walk}
use Rattle.packets.proofs.walk_all.Goals as goal

pub returns : goal.returns
unfolding walk
returns c = c.walk_on.ensures
