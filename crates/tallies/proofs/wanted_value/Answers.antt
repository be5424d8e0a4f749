-- `tallies::wanted_value` meets its contract. Assumes nothing.
use borrow.Author.Tests.{eq-eqb, ne_eqb, lt-ltb, le-ltb}
use mir.Syntax.{w32}
use Rattle.laws.proofs.Integers.{back}
use Rattle.test_rules.specs.Wanted.{wanted}
use Rattle.tallies.proofs.wanted_value.Goals as goal

pub returns-then-number-ne0 : goal.returns-then-number-ne0
unfolding wanted
returns-then-number-ne0 c = rw (ne_eqb _ _ c.if-number-ne0.true)

pub returns-then-i-expected : goal.returns-then-i-expected
unfolding wanted
returns-then-i-expected c = simp (eq-eqb _ _ c.if-number-ne0.false, lt-ltb _ _ c.if-i-expected.true) (back w32 _ c.result-1.given)

pub returns : goal.returns
unfolding wanted
returns c = simp (eq-eqb _ _ c.if-number-ne0.false, le-ltb _ _ c.if-i-expected.false)
