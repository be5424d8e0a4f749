-- What the loop of `ac_writer::put_block` keeps, and what goes down.
use Prim.Native.Nat.{◌-◌}
use lib.ListN.{length}
use Rattle.bit_rules.specs.Table.{Table}
use Rattle.ac_plan.specs.Code.{kind_blocks}
use Rattle.ac_pen.specs.Code.{Coded}
use Rattle.ac_writer.proofs.Positions.{Walking}
use Rattle.ac_writer.proofs.put_block.Given as goal

abbrev pub invariant-loop-i : goal.invariant-loop-i
invariant-loop-i l = (T : Table) → Coded T l.entries → Walking T l.initial.destination l.destination l.initial.s l.s l.block l.i (kind_blocks l.blocks l.later)

abbrev pub decreases-loop-i : goal.decreases-loop-i
decreases-loop-i l = length l.block - l.i
