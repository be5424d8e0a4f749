-- `levels::is_dc` meets its contract. Assumes nothing.
use Rattle.levels.specs.Level.{is_dc}
use Rattle.levels.proofs.is_dc.Goals as goal

pub returns-in-Dc : goal.returns-in-Dc
unfolding is_dc
returns-in-Dc c = rw c.in-Dc.is

pub returns-in-Ac : goal.returns-in-Ac
unfolding is_dc
returns-in-Ac c = rw c.in-Ac.is

pub returns-in-Whole : goal.returns-in-Whole
unfolding is_dc
returns-in-Whole c = rw c.in-Whole.is
