-- `ac_reader::read_block` meets its contract: what is left to read, behind the values read so far, is the whole. Assumes nothing.
use mathlib.Core.Path.{sym}
use Rattle.std.specs.Prelude.{Some}
use Rattle.std.proofs.lemmas.Result.{err_from_is_err_and}
use Rattle.bits.specs.Code.{bits_in, read_as}
use Rattle.bit_rules.specs.Table.{table}
use Rattle.ac_tasks.specs.Code.{task_of, open_of}
use Rattle.ac_steps.specs.Code.{At}
use Rattle.ac_steps.proofs.Positions.{at_first, at_asked_stopped, at_asked, at_end}
use Rattle.ac_reader.proofs.read_block.Goals.{In_ok-job}
use Rattle.ac_reader.proofs.read_block.Goals as goal

pub loop-i-init : goal.loop-i-init
loop-i-init c = at_first c.requires.destination_len

pub returns-in_err-job : goal.returns-in_err-job
unfolding read_as
returns-in_err-job c = let p = err_from_is_err_and c.from_residual.result c.from_residual.ensures.1 in
    rw (p.1, p.2) (at_asked_stopped c.loop-i.invariant c.loop-i-test.true (sym c.in_err-job.ensures.taken))

-- a code was read
opened : (c : In_ok-job) → At (table c.args.counts.now c.args.codes.now) c.args.left c.args.values.now c.loop-i.destination (open_of c.args.first) (Some (task_of c.in_ok-job.job)) (bits_in c.args.r.now) (bits_in c.task_at.new.r) c.loop-i.i
unfolding read_as
opened c = at_asked c.loop-i.invariant c.loop-i-test.true (sym c.in_ok-job.ensures.taken)

pub returns-in_err-moved : goal.returns-in_err-moved
unfolding read_as
returns-in_err-moved c = let here = goal.at.returns-in_err-moved c in
    let p = err_from_is_err_and c.from_residual-in_err-moved.result c.from_residual-in_err-moved.ensures.1 in
    rw (p.1, p.2) (c.in_err-moved.ensures.0.same _ _ _ _ (opened here.In_ok-job))

pub loop-i-preserved : goal.loop-i-preserved
loop-i-preserved c = let here = goal.at.loop-i-preserved c in
    c.in_ok-moved.ensures.0.same _ _ _ _ (opened here.In_ok-job)

pub returns : goal.returns
returns c = at_end c.loop-i.invariant c.loop-i.r c.block_end.result c.loop-i-test.false c.block_end.ensures
