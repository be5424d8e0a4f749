-- `ac_writer::do_job` meets its contract. Assumes nothing.
use mathlib.Core.Path.{refl}
use Rattle.std.specs.Prelude.{Some, None}
use Rattle.ac_writer.proofs.do_job.Goals as goal

pub returns-in-Leave : goal.returns-in-Leave
returns-in-Leave c = rw (c.in-Leave.is, c.went_on.ensures) (record { carried = c.walk-g.ensures.0 None; lack = refl; on = c.walk-g.ensures.1 })

pub returns-in-Set : goal.returns-in-Set
returns-in-Set c = rw (c.in-Set.is, c.went_on-in-Set.ensures) (record { carried = c.walk-g-in-Set.ensures.0 (Some _); lack = refl; on = c.walk-g-in-Set.ensures.1 })

pub returns-in-Ended : goal.returns-in-Ended
returns-in-Ended c = rw (c.in-Ended.is, c.went_on-in-Ended.ensures) (record { carried = c.rest-g.ensures.0 _; lack = refl; on = c.rest-g.ensures.1 })
