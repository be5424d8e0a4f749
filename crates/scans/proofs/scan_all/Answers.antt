-- `scans::scan_all` meets its contract: what was met and what is left make the whole.
use Rattle.packets.proofs.Meeting.{met, gone}
use Rattle.scans.proofs.Passes.{pass_start, pass_turn, pass_end, pass_ending}
use native.Mathlib.Omega.{arith}
use Rattle.scans.proofs.scan_all.Goals as goal

pub loop-here-init : goal.loop-here-init
loop-here-init c = pass_start _ _ _ _

pub overflow_add-at : goal.overflow_add-at
overflow_add-at c = let m = c.in-Some.ensures in omega arith

pub head_at-head-requires : goal.head_at-head-requires
head_at-head-requires c = let m = c.in-Some.ensures in omega arith

pub overflow_sub-here : goal.overflow_sub-here
overflow_sub-here c = let m = c.in-Some.ensures in omega arith

pub overflow_add-at-in-Some : goal.overflow_add-at-in-Some
overflow_add-at-in-Some c = let m = c.in-Some.ensures in omega arith

pub overflow_add-at-in-Some-2 : goal.overflow_add-at-in-Some-2
overflow_add-at-in-Some-2 c = let m = c.in-Some.ensures in omega arith

pub found_more-s-requires : goal.found_more-s-requires
found_more-s-requires c = let m = c.in-Some.ensures in omega arith

pub loop-here-smaller-in-Some : goal.loop-here-smaller-in-Some
loop-here-smaller-in-Some c = let m = c.in-Some.ensures in rw c.found_more-s.ensures (omega arith)

pub loop-here-preserved-in-Some : goal.loop-here-preserved-in-Some
loop-here-preserved-in-Some c = pass_turn _ _ _ _ c.loop-here.invariant (c.in-Some.ensures) (rw c.head_at-head.ensures at c.found_more-s.ensures)

pub returns-in_default-next_from : goal.returns-in_default-next_from
returns-in_default-next_from c = record { scanned = pass_end _ _ _ _ c.loop-here.invariant (gone _ _ _ _ c.next_from.ensures c.in_default-next_from.is); end_value = pass_ending _ _ _ _ c.loop-here.invariant }

pub found_more-s-requires-in-Some-next_from : goal.found_more-s-requires-in-Some-next_from
found_more-s-requires-in-Some-next_from c = let m = met _ _ _ _ c.next_from.ensures c.in-Some-next_from.is in omega arith

pub loop-here-smaller : goal.loop-here-smaller
loop-here-smaller c = let m = met _ _ _ _ c.next_from.ensures c.in-Some-next_from.is in
    rw c.found_more-s-in-Some-next_from.ensures (omega arith)

pub loop-here-preserved : goal.loop-here-preserved
loop-here-preserved c = let m = met _ _ _ _ c.next_from.ensures c.in-Some-next_from.is in
    pass_turn _ _ _ _ c.loop-here.invariant m c.found_more-s-in-Some-next_from.ensures
