-- `ac_pen::tell_run` meets its contract. Assumes nothing.
use mathlib.Core.Path.{refl}
use Prim.Native.Nat.{◌*◌}
use Rattle.ac_pen.proofs.Tokens.{told_run}
use Rattle.ac_pen.proofs.Lengths.{code_bits}
use native.Mathlib.Omega.{arith}
use Rattle.ac_pen.proofs.tell_run.Goals as goal

pub overflow_add-n : goal.overflow_add-n
overflow_add-n c = omega (arith, c.requires.known.1)

pub overflow_mul-r : goal.overflow_mul-r
overflow_mul-r c = omega (arith, c.class_of-r.ensures.1)

pub overflow_cast-r : goal.overflow_cast-r
overflow_cast-r c = omega (arith, c.class_of-r.ensures.1)

pub tell_code-q-requires : goal.tell_code-q-requires
tell_code-q-requires c = record { pen_ready = c.requires.pen_ready; known = c.requires.known.0 }

pub overflow_add-n-2 : goal.overflow_add-n-2
overflow_add-n-2 c = omega (arith, c.requires.known.1)

pub overflow_cast-n : goal.overflow_cast-n
overflow_cast-n c = omega (arith, c.requires.known.1)

pub put_digits-putter-requires : goal.put_digits-putter-requires
put_digits-putter-requires c = let t = c.tell_code-q.ensures _ c.requires.known.0.coded in
    record {
      sound = t.put.sound;
      at_bound = (omega (arith, t.put.near, code_bits _ c.requires.known.0.coded.good (16 * c.class_of-r.result), c.requires.pen_ready.near), omega (arith, c.class_of-r.ensures.1));
    }

pub returns : goal.returns
returns c = λ T k. told_run c.args.n c.class_of-r.result c.class_of-r.ensures.0 (c.tell_code-q.ensures T k) c.put_digits-putter.ensures refl
