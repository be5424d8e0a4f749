-- `bit_putter::gathered` meets its contract. Assumes nothing.
use Rattle.bit_putter.proofs.Gathering.{both}
use Rattle.bit_putter.proofs.gathered.Goals as goal

pub returns : goal.returns
returns c = rw c.low.ensures.0 (both _ _ c.args.number c.requires.0 c.requires.1)
