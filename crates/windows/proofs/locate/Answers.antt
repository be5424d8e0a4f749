-- `windows::locate` meets its contract: the places are right of the packets met so far.
use Rattle.packets.proofs.Meeting.{met, gone}
use Rattle.windows.proofs.Places.{locate_start, locate_turn, locate_end}
use lib.ListN.{length}
use native.Mathlib.Omega.{arith}
use Rattle.windows.proofs.locate.Goals as goal

pub loop-head-init : goal.loop-head-init
loop-head-init c = locate_start _ _ _ _ (length c.args.places.now) (c.fill.ensures.after (λ y e. e))

pub returns : goal.returns
returns c = locate_end c.loop-head.invariant (gone _ _ _ _ c.next_from.ensures c.in_default.is)

pub loop-head-smaller : goal.loop-head-smaller
loop-head-smaller c = let m = met _ _ _ _ c.next_from.ensures c.in-Some.is in omega arith

pub loop-head-preserved : goal.loop-head-preserved
loop-head-preserved c = locate_turn c.loop-head.invariant (met _ _ _ _ c.next_from.ensures c.in-Some.is) c.mark.ensures
