-- `bit_putter::put_bit` meets its contract: a law for the bit that fills the byte and one for the bit that is held. Assumes nothing.
use mathlib.Core.Path.{refl}
use Rattle.bit_putter.proofs.Putting.{joined, put_full, put_held}
use Rattle.bit_putter.proofs.put_bit.Goals as goal

pub returns-then-room-eq0 : goal.returns-then-room-eq0
returns-then-room-eq0 c = let j = joined c.args.p c.requires.sound c.args.bit in
    put_full c.requires.sound c.args.bit c.if-room-eq0.true (rw j at c.put_byte-at.ensures.0) (rw j at c.put_byte-at.ensures.1)

pub returns : goal.returns
returns c = put_held c.requires.sound c.args.bit c.if-room-eq0.false (joined c.args.p c.requires.sound c.args.bit) refl
