-- `ac_tasks::unit` meets its contract. Assumes nothing.

use Rattle.ac_tasks.proofs.unit.Goals as goal

pub returns-then-sign : goal.returns-then-sign
returns-then-sign c = rw c.if-sign.true

pub returns : goal.returns
returns c = rw c.if-sign.false
