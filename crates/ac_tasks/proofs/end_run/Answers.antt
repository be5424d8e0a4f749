-- `ac_tasks::end_run` meets its contract. Assumes nothing.
use lib.Pow.{pow_pos}
use Rattle.std.proofs.lemmas.Result.{err_from_is_err_and}
use Rattle.bits.specs.Code.{read_as}
use Rattle.plane_rules.specs.AcRead.{end_run}
use Rattle.ac_tasks.proofs.Numbers.{moved_one, power_small}
use Rattle.ac_tasks.proofs.Tasks.{run_fits, run_past}
use native.Mathlib.Omega.{arith}
use Rattle.ac_tasks.proofs.end_run.Goals as goal

pub returns-in_err-e : goal.returns-in_err-e
unfolding end_run read_as
returns-in_err-e c = let p = err_from_is_err_and c.from_residual.result c.from_residual.ensures.1 in rw (p.1, p.2, ← c.in_err-e.ensures.same)

pub overflow_add-run : goal.overflow_add-run
overflow_add-run c = omega (arith, moved_one c.args.n c.requires, power_small c.args.n c.requires, c.in_ok-e.ensures.small)

pub returns-then-left-run : goal.returns-then-left-run
unfolding end_run read_as
returns-then-left-run c = rw (c.stop.ensures, ← c.in_ok-e.ensures.same, run_past c.args.left c.args.n c.in_ok-e.e c.requires c.if-left-run.true)

pub overflow_sub-result : goal.overflow_sub-result
overflow_sub-result c = omega (arith, moved_one c.args.n c.requires, pow_pos c.args.n)

pub returns : goal.returns
unfolding end_run read_as
returns c = rw (← c.in_ok-e.ensures.same, run_fits c.args.left c.args.n c.in_ok-e.e c.requires c.if-left-run.false, moved_one c.args.n c.requires)
