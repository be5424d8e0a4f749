-- `settings::residual_count` meets its contract. Assumes nothing.
use Rattle.merge_rules.specs.Settings.{residual_count}
use Rattle.settings.proofs.residual_count.Goals as goal

pub returns-in-Absent : goal.returns-in-Absent
unfolding residual_count
returns-in-Absent c = rw c.in-Absent.is

pub returns-in-Present : goal.returns-in-Present
unfolding residual_count
returns-in-Present c = rw c.in-Present.is
