-- `tallies::counted` meets its contract. Assumes nothing.
use Rattle.test_rules.specs.Runs.{counted}
use Rattle.tallies.proofs.counted.Goals as goal

pub returns-then-good : goal.returns-then-good
unfolding counted
returns-then-good c = rw (c.if-good.true, c.less_one-left.ensures)

pub returns : goal.returns
unfolding counted
returns c = rw (c.if-good.false, c.less_one-left.ensures)
