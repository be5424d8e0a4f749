-- `segments::past_ones` meets its contract. The run from m on ends where the run from `at` on ends.
use borrow.Author.Rules.{rules}
use mathlib.Core.Path.{sym, ◌∙◌}
use Rattle.box_rules.proofs.Runs.{ones_on, ones_off, ones_end}
use Rattle.segments.proofs.past_ones.Goals as goal

pub loop-m-preserved : goal.loop-m-preserved
loop-m-preserved c = sym (ones_on _ _ (search rules) c.if-file-m.true) ∙ c.loop-m.invariant

pub returns-else-file-m : goal.returns-else-file-m
returns-else-file-m c = ones_off _ _ (search rules) c.if-file-m.false ∙ c.loop-m.invariant

pub returns-after-loop-m : goal.returns-after-loop-m
returns-after-loop-m c = ones_end _ _ (search rules) ∙ c.loop-m.invariant
