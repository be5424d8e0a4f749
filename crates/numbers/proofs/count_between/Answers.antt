-- `numbers::count_between` meets its contract: what was counted and what is left make the whole count.
use Rattle.packets.proofs.Meeting.{met, gone}
use Rattle.numbers.proofs.Chosen.{between_turn, between_end}
use Rattle.numbers.proofs.Meeting.{numbers_met, numbers_gone}
use native.Mathlib.Omega.{arith}
use Rattle.numbers.proofs.count_between.Goals as goal

pub returns : goal.returns
returns c = between_end _ _ _ _ c.loop-head.invariant.0 (numbers_gone _ _ _ _ (gone _ _ _ _ c.next_from.ensures c.in_default.is))

pub tick-n-requires : goal.tick-n-requires
tick-n-requires c = let m = met _ _ _ _ c.next_from.ensures c.in-Some.is in omega arith

pub loop-head-smaller : goal.loop-head-smaller
loop-head-smaller c = let m = met _ _ _ _ c.next_from.ensures c.in-Some.is in omega arith

pub loop-head-preserved : goal.loop-head-preserved
loop-head-preserved c = let m = met _ _ _ _ c.next_from.ensures c.in-Some.is in
    (rw (c.tick-n.ensures.0, c.within.ensures) (between_turn _ _ _ _ c.loop-head.invariant.0 (numbers_met m)), omega arith)
