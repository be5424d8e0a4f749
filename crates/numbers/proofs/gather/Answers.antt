-- `numbers::gather` meets its contract: what is in hand and what is still to come make the window.
use Rattle.packets.proofs.Meeting.{met, gone}
use Rattle.numbers.proofs.Chosen.{gather_start, gather_room, gather_here, gather_other, gather_end}
use Rattle.numbers.proofs.Meeting.{numbers_met, numbers_gone}
use mathlib.Core.Path.{sym, ◌∙◌}
use native.Mathlib.Omega.{arith}
use Rattle.numbers.proofs.gather.Goals as goal

pub loop-head-init : goal.loop-head-init
loop-head-init c = gather_start _ _ _ _ c.requires

pub returns : goal.returns
returns c = gather_end c.loop-head.invariant (numbers_gone _ _ _ _ (gone _ _ _ _ c.next_from.ensures c.in_default.is))

pub bounds-held-k : goal.bounds-held-k
bounds-held-k c = let m = met _ _ _ _ c.next_from.ensures c.in-Some.is in gather_room c.loop-head.invariant (numbers_met m) (sym c.within.ensures ∙ c.if-within.true)

pub loop-head-smaller-then-within : goal.loop-head-smaller-then-within
loop-head-smaller-then-within c = let m = met _ _ _ _ c.next_from.ensures c.in-Some.is in omega arith

pub loop-head-preserved-then-within : goal.loop-head-preserved-then-within
loop-head-preserved-then-within c = let m = met _ _ _ _ c.next_from.ensures c.in-Some.is in gather_here c.loop-head.invariant (numbers_met m) (sym c.within.ensures ∙ c.if-within.true)

pub loop-head-smaller : goal.loop-head-smaller
loop-head-smaller c = let m = met _ _ _ _ c.next_from.ensures c.in-Some.is in omega arith

pub loop-head-preserved : goal.loop-head-preserved
loop-head-preserved c = let m = met _ _ _ _ c.next_from.ensures c.in-Some.is in gather_other c.loop-head.invariant (numbers_met m) (sym c.within.ensures ∙ c.if-within.false)
