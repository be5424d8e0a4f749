-- `ac_plan::plan` meets its contract. Assumes nothing.
use Rattle.ac_plan.proofs.Tasks.{plan_set, plan_leave, plan_ended}
use native.Mathlib.Omega.{arith}
use Rattle.ac_plan.proofs.plan.Goals as goal

pub returns-then-zeros-lt16 : goal.returns-then-zeros-lt16
returns-then-zeros-lt16 c = plan_set _ _ _ c.ahead_of.ensures c.in-Some.is c.if-zeros-lt16.true

pub returns-in-None : goal.returns-in-None
returns-in-None c = plan_ended _ _ _ c.ahead_of.ensures c.in-None.is c.quiet_of.ensures.0 (omega (arith, c.quiet_of.ensures.1, c.requires.1))

pub returns-else-zeros-lt16 : goal.returns-else-zeros-lt16
returns-else-zeros-lt16 c = plan_leave _ _ _ c.ahead_of.ensures c.in-Some.is c.if-zeros-lt16.false
