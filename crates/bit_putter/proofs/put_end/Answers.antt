-- `bit_putter::put_end` meets its contract. Assumes nothing.
use Rattle.bit_putter.proofs.Putting.{end_empty, end_padded}
use Rattle.bit_putter.proofs.put_end.Goals as goal

pub returns-then-p-eq7 : goal.returns-then-p-eq7
returns-then-p-eq7 c = end_empty c.if-p-eq7.true

pub fill_up-last-requires : goal.fill_up-last-requires
fill_up-last-requires c = (c.requires.sound.room, c.requires.sound.held)

pub returns : goal.returns
returns c = end_padded c.if-p-eq7.false (rw c.fill_up-last.ensures at c.put_byte.ensures.0) (rw c.fill_up-last.ensures at c.put_byte.ensures.1)
