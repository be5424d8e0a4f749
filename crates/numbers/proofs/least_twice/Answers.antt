-- `numbers::least_twice` meets its contract.
use Rattle.numbers.proofs.Chosen.{drop_next}
use Rattle.box_rules.proofs.Counts.{twice_turn, twice_end}
use Rattle.box_rules.specs.Numbers.{least}
use lib.ListN.{drop_of_length-le}
use mathlib.Core.Path.{refl}
use native.Mathlib.Omega.{arith}
use borrow.Author.Rules.{rules}
use Rattle.numbers.proofs.least_twice.Goals as goal

pub loop-i-init : goal.loop-i-init
unfolding least
loop-i-init c = refl

pub loop-i-preserved : goal.loop-i-preserved
loop-i-preserved c = twice_turn _ _ c.loop-i.invariant (drop_next c.args.held.now c.loop-i.i (search rules)) (rw c.stands_from.ensures at c.lower-w.ensures)

pub returns : goal.returns
returns c = twice_end _ _ c.loop-i.invariant (drop_of_length-le c.args.held.now {i = c.loop-i.i} (omega arith))
