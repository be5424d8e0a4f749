-- `levels::first_outside` meets its contract: what lies in the range of AC values lies in every range. Assumes nothing.
use mathlib.Core.Path.{sym}
use mir.Syntax.{w32}
use Rattle.laws.proofs.Integers.{back}
use Rattle.levels.proofs.Ranges.{between_inside}
use Rattle.levels.proofs.first_outside.Goals as goal

pub returns-then-all_between : goal.returns-then-all_between
returns-then-all_between c = sym (between_inside _ _ _ (rw (back w32 c.lowest.result c.lowest.type_inv, c.lowest.ensures, back w32 c.above.result c.above.type_inv, c.above.ensures) at (c.all_between.ensures c.if-all_between.true)))
