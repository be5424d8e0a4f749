-- `ac_writer::put_block` meets its contract: what is still to tell comes to what the block comes to. Assumes nothing.
use Rattle.ac_writer.proofs.Positions.{begins_near, walk_start, walk_ready, walk_turn, walk_end}
use native.Mathlib.Omega.{arith}
use Rattle.ac_writer.proofs.put_block.Goals as goal

pub loop-i-init : goal.loop-i-init
loop-i-init c = λ T k. walk_start _ _ c.requires.sound.0

pub begin-b-requires : goal.begin-b-requires
begin-b-requires c = record {
  pen_ready = walk_ready _ _ (c.loop-i.invariant _ c.requires.known.0.coded) c.requires.known.0.coded.good c.requires.known.1 c.requires.sound.1;
  known = c.requires.known.0;
  later_len = c.requires.later_len;
}

pub do_job-m-requires : goal.do_job-m-requires
do_job-m-requires c = record {
  sound = begins_near _ _ (c.begin-b.ensures _ c.requires.known.0.coded) c.requires.known.0.coded.good (walk_ready _ _ (c.loop-i.invariant _ c.requires.known.0.coded) c.requires.known.0.coded.good c.requires.known.1 c.requires.sound.1);
  from_in_bounds = (c.loop-i-test.true, c.requires.known.1);
}

pub loop-i-smaller : goal.loop-i-smaller
loop-i-smaller c = omega (arith, c.do_job-m.ensures.on, c.loop-i-test.true)

pub loop-i-preserved : goal.loop-i-preserved
loop-i-preserved c = λ T k. walk_turn _ _ (c.loop-i.invariant T k) c.loop-i-test.true (c.begin-b.ensures T k) c.do_job-m.ensures

pub returns : goal.returns
returns c = λ T k. walk_end _ _ (c.loop-i.invariant T k) c.loop-i-test.false c.over-task.ensures
