-- `bit_putter::put_digits` meets its contract: the bits still to put come to what all of them come to. Assumes nothing.
use mathlib.Core.Path.{refl, ◌∙◌}
use Prim.Native.Nat.{◌≤◌, ◌^◌}
use lib.Pow.{pow_mono}
use Rattle.bit_putter.proofs.Putting.{small_held}
use Rattle.bit_putter.proofs.Gathering.{gather_start, gather_turn, gather_end}
use native.Mathlib.Omega.{arith}
use Rattle.bit_putter.proofs.put_digits.Goals as goal

pub gathered-all-requires : goal.gathered-all-requires
gathered-all-requires c = (small_held c.args.p c.requires.sound, c.requires.at_bound.1)

pub overflow_sub-count : goal.overflow_sub-count
overflow_sub-count c = c.requires.sound.room

pub overflow_add-count : goal.overflow_add-count
overflow_add-count c = omega (arith, c.requires.at_bound.1)

pub loop-count-init : goal.loop-count-init
loop-count-init c = (omega (arith, c.requires.at_bound.1), refl, gather_start)

pub overflow_cast-count-in-loop-count : goal.overflow_cast-count-in-loop-count
overflow_cast-count-in-loop-count c = omega (arith, c.loop-count.invariant.0)

pub overflow_shr-all : goal.overflow_shr-all
overflow_shr-all c = omega (arith, c.loop-count.invariant.0)

pub overflow_cast-low : goal.overflow_cast-low
overflow_cast-low c = omega (arith, c.low.ensures.1)

pub put_byte-at-requires : goal.put_byte-at-requires
put_byte-at-requires c = omega (arith, c.loop-count.invariant.2.near, c.requires.at_bound.0, c.requires.at_bound.1)

pub loop-count-preserved : goal.loop-count-preserved
loop-count-preserved c = (omega (arith, c.loop-count.invariant.0), c.put_byte-at.auto.destination ∙ c.loop-count.invariant.1, gather_turn c.loop-count.invariant.2 c.loop-count-test.true c.low.ensures.0 c.put_byte-at.ensures.0 c.put_byte-at.ensures.1)

pub low-requires-2 : goal.low-requires-2
low-requires-2 c = omega (arith, c.loop-count-test.false)

pub overflow_cast-result : goal.overflow_cast-result
overflow_cast-result c = let h : 2 ^ c.loop-count.count ≤ 2 ^ 7 = pow_mono {i = c.loop-count.count} {j = 7} (omega (arith, c.loop-count-test.false)) in
    omega (arith, c.low-2.ensures.1)

pub returns : goal.returns
returns c = gather_end c.loop-count.invariant.2 c.args.size c.args.number c.requires.sound c.gathered-all.ensures refl refl (omega (arith, c.loop-count-test.false)) c.low-2.ensures.0 refl
