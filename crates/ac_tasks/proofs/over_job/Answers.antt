-- `ac_tasks::over_job` meets its contract. Assumes nothing.
use Rattle.ac_tasks.proofs.Tasks.{over_on}
use Rattle.ac_tasks.proofs.over_job.Goals as goal

pub returns-then-n-eq0 : goal.returns-then-n-eq0
returns-then-n-eq0 c = rw (c.in-Ended.is, c.if-n-eq0.true)

pub returns-else-n-eq0 : goal.returns-else-n-eq0
returns-else-n-eq0 c = rw c.in-Ended.is (over_on _ c.if-n-eq0.false)

pub returns-in-Leave : goal.returns-in-Leave
returns-in-Leave c = rw c.in-Leave.is

pub returns-in-Set : goal.returns-in-Set
returns-in-Set c = rw c.in-Set.is
