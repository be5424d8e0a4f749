-- What the loop of `ac_tasks::take_number` keeps.
use Rattle.bits.specs.Code.{bits_in}
use Rattle.ac_tasks.proofs.Numbers.{Now}
use Rattle.ac_tasks.proofs.take_number.Given as goal

abbrev pub invariant-loop : goal.invariant-loop
invariant-loop l = Now l.n (bits_in l.fn.r) (bits_in l.r) l.v l.counter
