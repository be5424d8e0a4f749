-- What the loop of `dc_writer::put_dc_bits` keeps.
use mathlib.Core.Path.{◌≡◌}
use mathlib.Core.List.{map}
use lib.ListN.{length, drop}
use Rattle.bit_putter.proofs.Putting.{Going}
use Rattle.plane_rules.specs.Dc.{dc_bit}
use Rattle.dc_writer.proofs.put_dc_bits.Given as goal

abbrev pub invariant-loop-value : goal.invariant-loop-value
invariant-loop-value l = (length l.destination ≡ length l.initial.destination) × Going l.initial.destination l.destination l.initial.p l.p (map dc_bit (drop l.value-index l.values)) (map dc_bit l.values)
