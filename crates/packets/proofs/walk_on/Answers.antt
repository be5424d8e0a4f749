-- `packets::walk_on` meets its contract.
use Rattle.box_rules.proofs.Walking.{on_begun, on_not}
use Rattle.box_rules.specs.Walk.{ending}
use mathlib.Core.Path.{sym, ap, ◌∙◌}
use Rattle.packets.proofs.walk_on.Goals as goal

pub returns-then-begins : goal.returns-then-begins
returns-then-begins c = c.walk_end.ensures ∙ ap ending (sym (on_begun _ _ (sym c.begins.ensures ∙ c.if-begins.true)))

pub returns-else-begins : goal.returns-else-begins
returns-else-begins c = sym (on_not _ _ (sym c.begins.ensures ∙ c.if-begins.false))
