-- `desk::served` meets its contract. Assumes nothing.
use mathlib.Core.Path.{refl}
use borrow.Author.Tests.{lt-ltb, le-ltb}
use Rattle.desk.specs.Desk.{reply_to, Served}
use Rattle.desk.proofs.served.Goals as goal

pub returns-then-most-file : goal.returns-then-most-file
unfolding Served reply_to
returns-then-most-file c = rw (lt-ltb _ _ c.if-most-file.true) (c.reply_to.ensures, refl)

pub returns : goal.returns
unfolding Served
returns c = rw (le-ltb _ _ c.if-most-file.false) (record { answer = _; met = c.box_bytes-a.ensures; same = c.reply_to-2.ensures })
