-- `tallies::next_run` meets its contract. Assumes nothing.
use mathlib.Core.Path.{sym, ◌∙◌}
use Rattle.test_rules.specs.Runs.{moved}
use Rattle.test_rules.proofs.Steps.{next_run_is}
use Rattle.tallies.proofs.next_run.Goals as goal

pub returns-then-goes_on : goal.returns-then-goes_on
unfolding moved
returns-then-goes_on c = next_run_is _ _ _ c.counted-c.ensures c.number_at-group.ensures.0 (sym c.if-goes_on.true ∙ c.goes_on.ensures)

pub returns : goal.returns
unfolding moved
returns c = next_run_is _ _ _ c.counted-c.ensures c.number_at-group.ensures.0 (sym c.if-goes_on.false ∙ c.goes_on.ensures)
