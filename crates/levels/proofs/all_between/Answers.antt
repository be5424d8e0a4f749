-- `levels::all_between` meets its contract: as long as the flag is true, every value so far lies between. Assumes nothing.
use mathlib.Core.Path.{sym, ◌∙◌}
use lib.IntN.{pos}
use lib.ListN.{get_or}
use mir.Syntax.{w32}
use Rattle.laws.proofs.Integers.{back}
use Rattle.laws.proofs.First.{first_start}
use Rattle.levels.proofs.Ranges.{between_turn}
use borrow.Author.Rules.{rules}
use Rattle.levels.proofs.all_between.Goals as goal

pub loop-value-init : goal.loop-value-init
loop-value-init c = λ e. first_start _

pub loop-value-preserved : goal.loop-value-preserved
loop-value-preserved c = let v = get_or c.args.values.now c.loop-value.value-index (pos 0) in
    λ e. between_turn _ _ _ _ _ c.loop-value.invariant (rw (back w32 v (search rules)) at (sym c.still-good.ensures ∙ e))
