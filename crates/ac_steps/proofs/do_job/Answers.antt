-- `ac_steps::do_job` meets its contract. Assumes nothing.
use Rattle.ac_steps.proofs.do_job.Goals as goal

pub returns-in-Leave : goal.returns-in-Leave
returns-in-Leave c = rw c.in-Leave.is c.walk.ensures

pub returns-in-Set : goal.returns-in-Set
returns-in-Set c = rw c.in-Set.is c.walk-in-Set.ensures

pub returns-in-Ended : goal.returns-in-Ended
returns-in-Ended c = rw c.in-Ended.is c.rest.ensures
