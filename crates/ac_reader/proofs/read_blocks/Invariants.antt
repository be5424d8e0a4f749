-- What the loop of `ac_reader::read_blocks` keeps.
use Rattle.std.specs.Prelude.{None}
use Rattle.bits.specs.Code.{bits_in}
use Rattle.bit_rules.specs.Table.{table}
use Rattle.plane_rules.specs.AcRead.{ac_blocks, cut}
use Rattle.ac_reader.proofs.Plane.{Behind}
use Rattle.ac_reader.proofs.read_blocks.Given as goal

abbrev pub invariant-loop-block : goal.invariant-loop-block
invariant-loop-block l = Behind (table l.counts l.codes) l.blocks l.values l.initial.destination l.destination (ac_blocks (table l.counts l.codes) 0 None (cut l.blocks l.values) (bits_in l.initial.r)) l.task l.r l.block
