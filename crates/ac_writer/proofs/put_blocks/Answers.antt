-- `ac_writer::put_blocks` meets its contract: what is still to tell comes to what the plane comes to. Assumes nothing.
use Rattle.bit_rules.specs.Table.{table}
use Rattle.ac_pen.specs.Code.{Coded}
use Rattle.ac_writer.proofs.Planes.{part_is, part_short, rest_is, rest_long, run_start, run_near, run_turn, run_end}
use native.Mathlib.Omega.{arith}
use Rattle.ac_writer.proofs.put_blocks.Goals as goal

pub loop-n-init : goal.loop-n-init
loop-n-init c = run_start _ _

pub put_block-s-requires : goal.put_block-s-requires
put_block-s-requires c = let coded : Coded (table c.args.counts.now c.args.codes.now) c.code_table-entries.result = record { good = c.requires.codes_value; codes = c.code_table-entries.ensures } in
    record {
      sound = (c.loop-n.invariant.telling.going.sound, run_near _ _ c.loop-n.invariant c.requires.codes_value c.requires.values_len.1);
      known = (record { table = _; coded = coded }, part_short c.args.values.now c.loop-n.n);
      later_len = (rest_long c.args.values.now c.loop-n.n _ c.requires.values_len.0 c.loop-n-test.true, omega (arith, c.requires.values_len.1));
    }

pub loop-n-preserved : goal.loop-n-preserved
loop-n-preserved c = let coded : Coded (table c.args.counts.now c.args.codes.now) c.code_table-entries.result = record { good = c.requires.codes_value; codes = c.code_table-entries.ensures } in
    run_turn _ _ c.loop-n.invariant _ _ c.loop-n-test.true (part_is c.args.values.now c.loop-n.n) (rest_is c.args.values.now c.loop-n.n) (c.put_block-s.ensures _ (coded))

pub returns : goal.returns
returns c = run_end _ _ c.loop-n.invariant (omega arith)
