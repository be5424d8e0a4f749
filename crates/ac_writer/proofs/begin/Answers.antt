-- `ac_writer::begin` meets its contract. Assumes nothing.
use Rattle.ac_writer.proofs.Positions.{begins_open, begins_need}
use Rattle.ac_writer.proofs.begin.Goals as goal

pub plan-job-requires : goal.plan-job-requires
plan-job-requires c = c.requires.later_len

pub emit-told-requires : goal.emit-told-requires
emit-told-requires c = record { pen_ready = c.requires.pen_ready; known = (c.requires.known, c.plan-job.ensures.short) }

pub returns-in-Some : goal.returns-in-Some
returns-in-Some c = λ T k. begins_open _ _ c.in-Some.is c.requires.pen_ready.sound

pub returns-in-None : goal.returns-in-None
returns-in-None c = λ T k. begins_need _ _ c.in-None.is c.plan-job.ensures (c.emit-told.ensures T k)
