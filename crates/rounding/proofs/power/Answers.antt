-- `rounding::power` meets its contract: a one moved up. Assumes nothing.
use Rattle.rounding.proofs.Laws.{power_moved}
use Rattle.rounding.proofs.power.Goals as goal

pub returns : goal.returns
returns c = power_moved c.args.k c.requires
