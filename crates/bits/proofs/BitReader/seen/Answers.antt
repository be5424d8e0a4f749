-- `bits::BitReader::seen` meets its contract. Assumes nothing.
use Rattle.std.proofs.Common.{refl}
use Rattle.bits.specs.Code.{bits_in}
use Rattle.bits.proofs.BitReader.seen.Goals as goal

pub returns : goal.returns
unfolding bits_in
returns c = refl
