-- `desk::say` meets its contract. Assumes nothing.
use Rattle.desk.specs.Desk.{served}
use Rattle.desk.proofs.say.Goals as goal

pub returns-in-Usage : goal.returns-in-Usage
unfolding served
returns-in-Usage c = rw c.in-Usage.is

pub returns-in-Refused : goal.returns-in-Refused
unfolding served
returns-in-Refused c = rw c.in-Refused.is

pub returns-then-k-bytes : goal.returns-then-k-bytes
unfolding served
returns-then-k-bytes c = rw c.in-Bytes.is

pub returns-else-k-bytes : goal.returns-else-k-bytes
unfolding served
returns-else-k-bytes c = rw c.in-Bytes.is
