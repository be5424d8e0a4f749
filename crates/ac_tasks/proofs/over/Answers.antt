-- `ac_tasks::over` meets its contract. Assumes nothing.
use Rattle.ac_tasks.proofs.over.Goals as goal

pub returns-in-None : goal.returns-in-None
returns-in-None c = rw c.in-None.is

pub returns-in-Some : goal.returns-in-Some
returns-in-Some c = rw c.in-Some.is c.over_job.ensures
