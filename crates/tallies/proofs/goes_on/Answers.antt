-- `tallies::goes_on` meets its contract. Assumes nothing.
use borrow.Author.Tests.{eq-eqb, ne_eqb}
use Rattle.test_rules.specs.Runs.{goes_on}
use Rattle.tallies.proofs.goes_on.Goals as goal

pub returns-then-left-eq0 : goal.returns-then-left-eq0
unfolding goes_on
returns-then-left-eq0 c = rw (eq-eqb _ _ c.if-left-eq0.true)

pub returns : goal.returns
unfolding goes_on
returns c = rw (ne_eqb _ _ c.if-left-eq0.false)
