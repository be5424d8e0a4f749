-- `bits::BitReader::new` meets its contract. Assumes nothing.
use Rattle.std.proofs.Common.{refl}
use Rattle.bits.specs.Code.{bits_in, highs}
use Rattle.bits.proofs.BitReader.new.Goals as goal

pub returns : goal.returns
unfolding bits_in highs
returns c = refl
