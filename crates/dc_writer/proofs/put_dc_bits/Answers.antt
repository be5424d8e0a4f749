-- `dc_writer::put_dc_bits` meets its contract: the bits still to put come to what all of them come to. Assumes nothing.
use mathlib.Core.Path.{refl, ap, ◌∙◌}
use lib.IntN.{pos}
use lib.ListN.{get_or, length-map}
use mir.Syntax.{w32}
use Rattle.laws.proofs.Integers.{back}
use Rattle.bit_putter.proofs.Putting.{going_start, new_sound}
use Rattle.plane_rules.specs.Dc.{dc_bit}
use Rattle.dc_writer.proofs.DcWriting.{bits_turn, bits_end}
use borrow.Author.Rules.{rules}
use native.Mathlib.Omega.{arith}
use Rattle.dc_writer.proofs.put_dc_bits.Goals as goal

pub loop-value-init : goal.loop-value-init
loop-value-init c = (refl, going_start new_sound)

pub put_bit-p-requires : goal.put_bit-p-requires
put_bit-p-requires c = record { sound = c.loop-value.invariant.1.sound; at_bound = omega (arith, c.loop-value.invariant.1.near, length-map c.args.values.now dc_bit, c.requires) }

pub loop-value-preserved : goal.loop-value-preserved
loop-value-preserved c = let e = c.dc_bit.ensures ∙ ap dc_bit (back w32 (get_or c.args.values.now c.loop-value.value-index (pos 0)) (search rules)) in
    (c.put_bit-p.auto.destination ∙ c.loop-value.invariant.0, bits_turn c.args.values.now c.loop-value.value-index c.loop-value.invariant.1 c.loop-value-test.true e c.put_bit-p.ensures)

pub returns : goal.returns
returns c = bits_end c.args.values.now c.loop-value.value-index c.loop-value.invariant.1 c.loop-value-test.false
