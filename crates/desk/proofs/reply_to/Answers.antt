-- `desk::reply_to` meets its contract. Assumes nothing.
use borrow.Author.Tests.{eq-eqb, ne_eqb}
use Rattle.desk.specs.Desk.{reply_to}
use Rattle.desk.proofs.reply_to.Goals as goal

pub returns-then-a-eq0 : goal.returns-then-a-eq0
unfolding reply_to
returns-then-a-eq0 c = rw (eq-eqb _ _ c.if-a-eq0.true)

pub returns : goal.returns
unfolding reply_to
returns c = rw (ne_eqb _ _ c.if-a-eq0.false)
