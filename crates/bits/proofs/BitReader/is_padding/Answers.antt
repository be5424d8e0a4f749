-- `bits::BitReader::is_padding` meets its contract. Assumes nothing.
use mathlib.Core.Path.{◌∙◌}
use Rattle.bits.proofs.Taking.{padding_yes, padding_no}
use Rattle.bits.proofs.BitReader.is_padding.Goals as goal

pub returns-then-ones_left : goal.returns-then-ones_left
returns-then-ones_left c = padding_yes c.args.self.now _ c.ones_left.ensures c.if-ones_left.true

pub returns-else-ones_left : goal.returns-else-ones_left
returns-else-ones_left c = c.if-ones_left.false ∙ padding_no c.args.self.now _ c.ones_left.ensures c.if-ones_left.false
