-- `bit_putter::put_byte` meets its contract. Assumes nothing.
use Rattle.bit_putter.proofs.Putting.{plain_put, ff_put}
use Rattle.bit_putter.proofs.put_byte.Goals as goal

pub returns-then-byte-eq255 : goal.returns-then-byte-eq255
returns-then-byte-eq255 c = ff_put _ _ _ c.store.ensures c.store-then-byte-eq255.ensures c.if-byte-eq255.true

pub returns : goal.returns
returns c = plain_put _ _ _ c.store.ensures c.if-byte-eq255.false
