-- `numbers::past_all` meets its contract: from m on, what is left has all that there is.
use Rattle.packets.proofs.Meeting.{met, gone}
use Rattle.numbers.proofs.Chosen.{past_turn, past_end}
use Rattle.numbers.proofs.Meeting.{numbers_met, numbers_gone}
use native.Mathlib.Omega.{arith}
use Rattle.numbers.proofs.past_all.Goals as goal

pub returns : goal.returns
returns c = record { upper_bound = c.loop-head.invariant.0; by_index = past_end _ _ _ c.loop-head.invariant.1 (numbers_gone _ _ _ _ (gone _ _ _ _ c.next_from.ensures c.in_default.is)) }

pub loop-head-smaller : goal.loop-head-smaller
loop-head-smaller c = let m = met _ _ _ _ c.next_from.ensures c.in-Some.is in omega arith

pub loop-head-preserved : goal.loop-head-preserved
loop-head-preserved c = let m = met _ _ _ _ c.next_from.ensures c.in-Some.is in
    (c.past-m.ensures.upper_bound c.loop-head.invariant.0, past_turn _ _ _ c.loop-head.invariant.1 (numbers_met m) c.past-m.ensures.lower_bound)
