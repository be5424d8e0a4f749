-- What the loop of `ac_reader::read_block` keeps, and what goes down.
use Prim.Native.Nat.{◌-◌}
use lib.ListN.{length}
use Rattle.bits.specs.Code.{bits_in}
use Rattle.bit_rules.specs.Table.{table}
use Rattle.ac_tasks.specs.Code.{open_of}
use Rattle.ac_steps.specs.Code.{At}
use Rattle.ac_reader.proofs.read_block.Given as goal

abbrev pub invariant-loop-i : goal.invariant-loop-i
invariant-loop-i l = At (table l.counts l.codes) l.left l.values l.destination (open_of l.initial.task) (open_of l.task) (bits_in l.initial.r) (bits_in l.r) l.i

abbrev pub decreases-loop-i : goal.decreases-loop-i
decreases-loop-i l = length l.values - l.i
