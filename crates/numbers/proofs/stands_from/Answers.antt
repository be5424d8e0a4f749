-- `numbers::stands_from` meets its contract: what was counted and what is left make the whole count.
use Rattle.numbers.proofs.Chosen.{drop_next}
use Rattle.box_rules.proofs.Counts.{count_turn, count_end}
use lib.ListN.{drop_of_length-le}
use native.Mathlib.Omega.{arith}
use borrow.Author.Rules.{rules}
use Rattle.numbers.proofs.stands_from.Goals as goal

pub loop-i-preserved : goal.loop-i-preserved
loop-i-preserved c = (rw c.tick-n.ensures.0 (count_turn _ _ _ c.loop-i.invariant.0 (drop_next c.args.held.now c.loop-i.i (search rules))), omega arith)

pub returns : goal.returns
returns c = count_end _ _ _ c.loop-i.invariant.0 (drop_of_length-le c.args.held.now {i = c.loop-i.i} (omega arith))
