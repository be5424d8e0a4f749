-- What the loop of `dc_reader::read_dc_blocks` keeps.
use Rattle.bits.specs.Code.{bits_in}
use Rattle.plane_rules.specs.Dc.{dc_blocks}
use Rattle.dc_reader.proofs.DcReading.{Now}
use Rattle.dc_reader.proofs.read_dc_blocks.Given as goal

abbrev pub invariant-loop-i : goal.invariant-loop-i
invariant-loop-i l = Now l.values l.initial.destination l.destination (dc_blocks 0 l.values (bits_in l.initial.r)) l.r l.i
