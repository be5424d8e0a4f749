-- `ac_writer::rest` meets its contract: the bits put so far and what is left of the block are the block. Assumes nothing.
use mathlib.Core.Path.{◌≡◌}
use lib.IntN.{pos}
use lib.ListN.{length, get_or}
use mir.Syntax.{w32}
use Rattle.laws.proofs.Integers.{back}
use Rattle.plane_rules.specs.AcWrite.{kind_of}
use Rattle.ac_plan.specs.Code.{kind_is}
use Rattle.ac_writer.proofs.Positions.{carries_near, carries_kept, carries_other}
use native.Mathlib.Omega.{arith}
use Rattle.ac_writer.proofs.rest.Goals.{in-Kept, in_default}
use Rattle.ac_writer.proofs.rest.Goals as goal

pub put_bit-q-requires : goal.put_bit-q-requires
put_bit-q-requires c = let h = carries_near (c.loop-i.invariant 0) (omega arith) c.requires.from_in_bounds.1 c.requires.sound.1 in record { sound = h.0; at_bound = h.1 }

pub loop-i-preserved : goal.loop-i-preserved
loop-i-preserved c = let kind : kind_is c.kind_of.result ≡ kind_of (get_or c.args.block.now c.loop-i.i (pos 0)) = rw (back w32 _ c.kind_of-arg-1.given) at c.kind_of.ensures in
    elim c.match-kind_of.branch [
      | in-Kept w ↦ rw (w.destination-is, w.q-is) (λ n. carries_kept (c.loop-i.invariant n) c.loop-i-test.true (kind) w.in-Kept.is w.put_bit-q.ensures)
      | in_default w ↦ rw (w.destination-is, w.q-is) (λ n. carries_other (c.loop-i.invariant n) c.loop-i-test.true (kind) w.in_default.not-Kept)
    ]

pub returns : goal.returns
returns c = let e : c.loop-i.i ≡ length c.args.block.now = omega arith in (rw (← e) c.loop-i.invariant, omega (arith, c.requires.from_in_bounds.0))
