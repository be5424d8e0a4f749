-- What the loop of `ac_writer::put_blocks` keeps.
use Rattle.bit_rules.specs.Table.{table}
use Rattle.ac_writer.proofs.Planes.{Running}
use Rattle.ac_writer.proofs.put_blocks.Given as goal

abbrev pub invariant-loop-n : goal.invariant-loop-n
invariant-loop-n l = Running (table l.counts l.codes) l.initial.destination l.destination l.s l.blocks l.values l.n
