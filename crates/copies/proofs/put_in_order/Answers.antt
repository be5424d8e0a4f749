-- `copies::put_in_order` meets its contract: what is left to write here is the whole at the front.
use Rattle.packets.proofs.Meeting.{met, gone}
use Rattle.copies.proofs.Puts.{write_start, write_done, payload_turn, payloads_none}
use native.Mathlib.Omega.{arith}
use Rattle.copies.proofs.put_in_order.Goals as goal

pub loop-here-init : goal.loop-here-init
loop-here-init c = write_start _ _ _ (omega (arith, c.requires))

pub overflow_add-at : goal.overflow_add-at
overflow_add-at c = let m = c.in-Some.ensures in omega arith

pub overflow_sub-here : goal.overflow_sub-here
overflow_sub-here c = let m = c.in-Some.ensures in omega arith

pub copy_part-requires : goal.copy_part-requires
copy_part-requires c = let m = c.in-Some.ensures in
    (omega arith, (payload_turn c.loop-here.invariant m).0)

pub overflow_sub-to : goal.overflow_sub-to
overflow_sub-to c = let m = c.in-Some.ensures in omega arith

pub overflow_add-to : goal.overflow_add-to
overflow_add-to c = let m = c.in-Some.ensures in
    omega (arith, (payload_turn c.loop-here.invariant m).0, c.loop-here.invariant.size)

pub overflow_add-at-in-Some : goal.overflow_add-at-in-Some
overflow_add-at-in-Some c = let m = c.in-Some.ensures in omega arith

pub overflow_add-at-in-Some-2 : goal.overflow_add-at-in-Some-2
overflow_add-at-in-Some-2 c = let m = c.in-Some.ensures in omega arith

pub loop-here-smaller-in-Some : goal.loop-here-smaller-in-Some
loop-here-smaller-in-Some c = let m = c.in-Some.ensures in omega arith

pub loop-here-preserved-in-Some : goal.loop-here-preserved-in-Some
loop-here-preserved-in-Some c = let m = c.in-Some.ensures in
    (payload_turn c.loop-here.invariant m).1 _ c.copy_part.ensures

pub returns-in_default-next_from : goal.returns-in_default-next_from
returns-in_default-next_from c = (write_done c.loop-here.invariant (payloads_none (gone _ _ _ _ c.next_from.ensures c.in_default-next_from.is))).0

pub copy_part-requires-in-Some-next_from : goal.copy_part-requires-in-Some-next_from
copy_part-requires-in-Some-next_from c = let m = met _ _ _ _ c.next_from.ensures c.in-Some-next_from.is in
    (omega arith, (payload_turn c.loop-here.invariant m).0)

pub overflow_add-to-in-Some-next_from : goal.overflow_add-to-in-Some-next_from
overflow_add-to-in-Some-next_from c = let m = met _ _ _ _ c.next_from.ensures c.in-Some-next_from.is in
    omega (arith, c.well_formed, (payload_turn c.loop-here.invariant m).0, c.loop-here.invariant.size)

pub loop-here-smaller : goal.loop-here-smaller
loop-here-smaller c = let m = met _ _ _ _ c.next_from.ensures c.in-Some-next_from.is in
    omega arith

pub loop-here-preserved : goal.loop-here-preserved
loop-here-preserved c = let m = met _ _ _ _ c.next_from.ensures c.in-Some-next_from.is in
    (payload_turn c.loop-here.invariant m).1 _ c.copy_part-in-Some-next_from.ensures
