-- `ac_tasks::task_at` meets its contract. Assumes nothing.
use mathlib.Core.Path.{refl}
use Rattle.std.proofs.lemmas.Result.{err_from_is_err_and}
use Rattle.bits.specs.Code.{read_as}
use Rattle.plane_rules.specs.AcRead.{task_at}
use Rattle.ac_tasks.proofs.task_at.Goals as goal

pub returns-in-Some-clause-taken : goal.returns-in-Some-clause-taken
unfolding task_at read_as
returns-in-Some-clause-taken c = rw c.in-Some.is

pub returns-in_err-v-in-None : goal.returns-in_err-v-in-None
unfolding task_at read_as
returns-in_err-v-in-None c = let p = err_from_is_err_and c.from_residual.result c.from_residual.ensures.1 in
    rw (p.1, p.2) (record { taken = rw (c.in-None.is, ← c.in_err-v-in-None.ensures.taken); kept = refl })

pub returns-in_err-job-in-None : goal.returns-in_err-job-in-None
unfolding task_at read_as
returns-in_err-job-in-None c = let p = err_from_is_err_and c.from_residual-in_err-job-in-None.result c.from_residual-in_err-job-in-None.ensures.1 in
    rw (p.1, p.2) (record { taken = rw (c.in-None.is, ← c.in_ok-v-in-None.ensures.taken) c.in_err-job-in-None.ensures; kept = refl })

pub returns-in_ok-job-in-None-clause-taken : goal.returns-in_ok-job-in-None-clause-taken
unfolding task_at read_as
returns-in_ok-job-in-None-clause-taken c = rw (c.in-None.is, ← c.in_ok-v-in-None.ensures.taken) c.in_ok-job-in-None.ensures
