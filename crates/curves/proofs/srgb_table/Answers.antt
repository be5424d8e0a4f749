-- `curves::srgb_table` meets its contract: the table of the source is the table of the definition. Assumes nothing.
use mathlib.Core.Path.{refl}
use Rattle.merge_rules.specs.Srgb.{srgb}
use Rattle.curves.proofs.srgb_table.Goals as goal

pub returns : goal.returns
unfolding srgb
returns c = refl
