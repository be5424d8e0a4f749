-- `ac_tasks::take_number` meets its contract: what is left to read gives what the whole gives. Assumes nothing.
use Rattle.std.proofs.lemmas.Result.{err_from_is_err_and}
use Rattle.bits.specs.Code.{read_as}
use Rattle.ac_tasks.proofs.Numbers.{now_end, now_stopped, now_turn}
use native.Mathlib.Omega.{arith}
use Rattle.ac_tasks.proofs.take_number.Goals as goal

pub returns-in_err-b-clause-same : goal.returns-in_err-b-clause-same
unfolding read_as
returns-in_err-b-clause-same c = let p = err_from_is_err_and c.from_residual.result c.from_residual.ensures.1 in rw (p.1, p.2) (now_stopped c.loop.invariant c.loop-test.true c.in_err-b.ensures.taken)

pub loop-preserved : goal.loop-preserved
unfolding read_as
loop-preserved c = now_turn c.loop.invariant c.loop-test.true c.in_ok-b.ensures.taken

pub returns-clause-same : goal.returns-clause-same
unfolding read_as
returns-clause-same c = now_end c.loop.invariant (omega arith)
