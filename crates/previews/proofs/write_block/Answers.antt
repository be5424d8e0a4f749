-- `previews::write_block` meets its contract: what the first quarter owes, unfolded, is what the block owes. Assumes nothing.
use mathlib.Core.Path.{◌∙◌}
use Rattle.previews.proofs.Weights.{owed_is}
use Rattle.previews.proofs.write_block.Goals as goal

pub returns : goal.returns
returns c = c.write_owed.ensures ∙ rw (c.first_quarter.ensures, owed_is c.args.quantisers.now c.args.left)
