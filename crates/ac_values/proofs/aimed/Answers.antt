-- `ac_values::aimed` meets its contract. Assumes nothing.
use mathlib.Core.Path.{◌∙◌}
use mir.Syntax.{w32}
use Rattle.laws.proofs.Integers.{back}
use Rattle.ac_values.proofs.aimed.Goals as goal

pub returns-then-leave : goal.returns-then-leave
returns-then-leave c = rw c.if-leave.true

pub returns : goal.returns
returns c = rw c.if-leave.false (back w32 _ c.unit.type_inv ∙ c.unit.ensures)
