-- `choices::weights_of` meets its contract. Assumes nothing.
use lib.IntN.{pos}
use lib.ListN.{get_or}
use mir.Syntax.{w16}
use Rattle.laws.proofs.Integers.{back}
use borrow.Author.Tests.{lt-ltb, le-ltb}
use Rattle.merge_rules.specs.Call.{weights_of}
use Rattle.choices.proofs.weights_of.Goals as goal

pub returns-then-matrix-lt9 : goal.returns-then-matrix-lt9
unfolding weights_of
returns-then-matrix-lt9 c = rw (lt-ltb _ _ c.if-matrix-lt9.true)

pub returns : goal.returns
unfolding weights_of
returns c = rw (
  le-ltb _ _ c.if-matrix-lt9.false,
  back w16 (get_or c.args.matrix.now 0 (pos 0)) c.result-1.given,
  back w16 (get_or c.args.matrix.now 1 (pos 0)) c.result-2-1.given,
  back w16 (get_or c.args.matrix.now 2 (pos 0)) c.result-3-1.given,
  back w16 (get_or c.args.matrix.now 3 (pos 0)) c.result-4-1.given,
  back w16 (get_or c.args.matrix.now 4 (pos 0)) c.result-5-1.given,
  back w16 (get_or c.args.matrix.now 5 (pos 0)) c.result-6-1.given,
  back w16 (get_or c.args.matrix.now 6 (pos 0)) c.result-7-1.given,
  back w16 (get_or c.args.matrix.now 7 (pos 0)) c.result-8-1.given,
  back w16 (get_or c.args.matrix.now 8 (pos 0)) c.result-9-1.given,
)
