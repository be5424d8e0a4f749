-- `packets::step_at` meets its contract: where the quick look finds a packet, it is the step.
use mathlib.Core.Path.{sym}
use native.Mathlib.Omega.{arith}
use Rattle.packets.proofs.step_at.Goals as goal

pub overflow_add-at : goal.overflow_add-at
overflow_add-at c = let p = c.in-Some.ensures in omega arith

pub head_at-requires : goal.head_at-requires
head_at-requires c = let p = c.in-Some.ensures in omega arith

pub overflow_add-result : goal.overflow_add-result
overflow_add-result c = let p = c.in-Some.ensures in omega arith

pub overflow_sub-result : goal.overflow_sub-result
overflow_sub-result c = let p = c.in-Some.ensures in omega arith

pub overflow_add-result-in-Some : goal.overflow_add-result-in-Some
overflow_add-result-in-Some c = let p = c.in-Some.ensures in omega arith

pub overflow_add-result-in-Some-2 : goal.overflow_add-result-in-Some-2
overflow_add-result-in-Some-2 c = let p = c.in-Some.ensures in omega arith

pub returns-in-Some : goal.returns-in-Some
returns-in-Some c = rw c.head_at.ensures (sym (c.in-Some.ensures).step)
