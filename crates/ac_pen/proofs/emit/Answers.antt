-- `ac_pen::emit` meets its contract. Assumes nothing.
use Prim.Native.Nat.{◌+◌, ◌*◌}
use Rattle.plane_rules.specs.AcWrite as written
use Rattle.ac_pen.proofs.Tokens.{told_then, short_leave, short_set, short_ended}
use Rattle.ac_pen.proofs.Lengths.{code_bits}
use native.Mathlib.Omega.{arith}
use Rattle.ac_pen.proofs.emit.Goals as goal

pub overflow_mul-n : goal.overflow_mul-n
overflow_mul-n c = omega (arith, short_leave c.requires.known.1 c.in-Leave.is)

pub overflow_cast-n : goal.overflow_cast-n
overflow_cast-n c = omega (arith, short_leave c.requires.known.1 c.in-Leave.is)

pub tell_code-requires : goal.tell_code-requires
tell_code-requires c = record { pen_ready = c.requires.pen_ready; known = c.requires.known.0 }

pub overflow_mul-n-in-Set : goal.overflow_mul-n-in-Set
overflow_mul-n-in-Set c = omega (arith, short_set c.requires.known.1 c.in-Set.is)

pub overflow_add-n : goal.overflow_add-n
overflow_add-n c = omega (arith, short_set c.requires.known.1 c.in-Set.is)

pub overflow_cast-n-in-Set : goal.overflow_cast-n-in-Set
overflow_cast-n-in-Set c = omega (arith, short_set c.requires.known.1 c.in-Set.is)

pub tell_code-q-requires : goal.tell_code-q-requires
tell_code-q-requires c = record { pen_ready = c.requires.pen_ready; known = c.requires.known.0 }

pub tell_bit-requires : goal.tell_bit-requires
tell_bit-requires c = let t = c.tell_code-q.ensures _ c.requires.known.0.coded in
    (t.put.sound, omega (arith, t.put.near, code_bits _ c.requires.known.0.coded.good (16 * c.in-Set.n + 1), c.requires.pen_ready.near))

pub tell_run-requires : goal.tell_run-requires
tell_run-requires c = record { pen_ready = c.requires.pen_ready; known = (c.requires.known.0, short_ended c.requires.known.1 c.in-Ended.is) }

pub returns-in-Leave : goal.returns-in-Leave
unfolding written.emit
returns-in-Leave c = rw c.in-Leave.is c.tell_code.ensures

pub returns-in-Set : goal.returns-in-Set
unfolding written.emit
returns-in-Set c = λ T k. rw c.in-Set.is (told_then (c.tell_code-q.ensures T k) (c.tell_bit.ensures T))

pub returns-in-Ended : goal.returns-in-Ended
returns-in-Ended c = rw c.in-Ended.is c.tell_run.ensures
