-- `ac_tasks::meaning` meets its contract. Assumes nothing.
use borrow.Author.Tests.{lt-ltb, le-ltb}
use Rattle.std.proofs.lemmas.Result.{err_from_is_err_and}
use Rattle.bits.specs.Code.{read_as}
use Rattle.plane_rules.specs.AcRead.{meaning}
use Rattle.ac_tasks.proofs.Tasks.{low_bits, low_one, unused}
use Rattle.ac_tasks.proofs.meaning.Goals as goal

pub returns-then-s-gt1 : goal.returns-then-s-gt1
unfolding read_as
returns-then-s-gt1 c = rw c.stop.ensures (unused c.args.v _ _ _ c.if-s-gt1.true)

pub returns-then-n-lt15 : goal.returns-then-n-lt15
unfolding meaning
returns-then-n-lt15 c = rw (low_bits c.args.v 0 c.if-s-eq0.true, ← c.from-n.ensures, lt-ltb _ 15 c.if-n-lt15.true) c.end_run.ensures

pub returns-then-s-eq0 : goal.returns-then-s-eq0
unfolding meaning read_as
returns-then-s-eq0 c = rw (low_bits c.args.v 0 c.if-s-eq0.true, ← c.from-n.ensures, le-ltb _ 15 c.if-n-lt15.false)

pub returns-in_err-sign : goal.returns-in_err-sign
unfolding meaning read_as
returns-in_err-sign c = let p = err_from_is_err_and c.from_residual.result c.from_residual.ensures.1 in rw (p.1, p.2, low_one c.args.v c.if-s-eq0.false c.if-s-gt1.false, ← c.in_err-sign.ensures.taken)

pub returns : goal.returns
unfolding meaning read_as
returns c = rw (low_one c.args.v c.if-s-eq0.false c.if-s-gt1.false, ← c.in_ok-sign.ensures.taken, c.from-n.ensures)
