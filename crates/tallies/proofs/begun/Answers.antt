-- `tallies::begun` meets its contract. Assumes nothing.
use Rattle.test_rules.specs.Runs.{begun}
use Rattle.tallies.proofs.begun.Goals as goal

pub returns : goal.returns
unfolding begun
returns c = rw (c.number_at-2.ensures.0, c.number_at.ensures.0, c.number_at-at.ensures.0)
