-- `ac_tasks::block_end` meets its contract. Assumes nothing.
use Rattle.bits.specs.Code.{read_as}
use Rattle.plane_rules.specs.AcRead.{block_end}
use Rattle.ac_tasks.proofs.block_end.Goals as goal

pub returns-in-None : goal.returns-in-None
unfolding block_end read_as
returns-in-None c = rw c.in-None.is

pub returns-in-Leave : goal.returns-in-Leave
unfolding block_end read_as
returns-in-Leave c = rw (c.in-Some.is, c.in-Leave.is, c.stop.ensures)

pub returns-in-Set : goal.returns-in-Set
unfolding block_end read_as
returns-in-Set c = rw (c.in-Some.is, c.in-Set.is, c.stop-in-Set.ensures)

pub returns-in-Ended : goal.returns-in-Ended
unfolding block_end read_as
returns-in-Ended c = rw (c.in-Some.is, c.over_job.ensures, c.in-Ended.is)
