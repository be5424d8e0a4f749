-- `transform::is_quantiser` meets its contract, test by test. Assumes nothing.
use mathlib.Core.Path.{sym}
use borrow.Author.Tests.{lt-leb, le-leb}
use lib.Dec.{leb}
use Rattle.laws.specs.Index.{every}
use Rattle.laws.proofs.Tests.{every_last}
use Rattle.transform_rules.specs.Call.{is_quantiser}
use Rattle.transform.proofs.is_quantiser.Goals as goal

pub returns-else-entry-ge1 : goal.returns-else-entry-ge1
unfolding is_quantiser every
returns-else-entry-ge1 c = rw (lt-leb 1 c.args.entry c.if-entry-ge1.false)

pub returns-then-entry-ge1 : goal.returns-then-entry-ge1
unfolding is_quantiser every
returns-then-entry-ge1 c = rw (le-leb 1 c.args.entry c.if-entry-ge1.true) (sym (every_last (leb c.args.entry 255)))
