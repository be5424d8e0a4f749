-- `ac_pen::tell_code` meets its contract. Assumes nothing.
use mathlib.Core.Path.{refl}
use Rattle.bit_putter.proofs.Putting.{puts_none}
use Rattle.ac_pen.proofs.Tokens.{told_held, told_lacked}
use native.Mathlib.Omega.{arith}
use Rattle.ac_pen.proofs.tell_code.Goals as goal

pub returns-then-entry-eq0 : goal.returns-then-entry-eq0
returns-then-entry-eq0 c = λ T k. told_lacked T (k.codes.each c.args.value (omega (arith, c.ranges.value))) c.if-entry-eq0.true (puts_none c.requires.pen_ready.sound) c.or_lacking-first.ensures

pub put_digits-putter-requires : goal.put_digits-putter-requires
put_digits-putter-requires c = record {
  sound = c.requires.pen_ready.sound;
  at_bound = (omega (arith, c.requires.pen_ready.near), (c.requires.known.coded.codes.each c.args.value (omega (arith, c.ranges.value))).short);
}

pub returns : goal.returns
returns c = λ T k. told_held T (k.codes.each c.args.value (omega (arith, c.ranges.value))) c.if-entry-eq0.false c.put_digits-putter.ensures refl
