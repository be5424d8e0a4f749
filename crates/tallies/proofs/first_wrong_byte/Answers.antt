-- `tallies::first_wrong_byte` meets its contract: before index i every byte is the wanted one. Assumes nothing.
use mathlib.Core.Path.{sym}
use borrow.Author.Tests.{eq-eqb, ne_eqb}
use Rattle.laws.proofs.First.{first_start, first_more, first_found, first_end}
use Rattle.test_rules.specs.Wanted.{is_wanted}
use native.Mathlib.Omega.{arith}
use Rattle.tallies.proofs.first_wrong_byte.Goals as goal

pub loop-i-init : goal.loop-i-init
loop-i-init c = first_start _

pub returns-then-got-want : goal.returns-then-got-want
unfolding is_wanted
returns-then-got-want c = sym (first_found _ _ _ c.loop-i-test.true c.loop-i.invariant (rw (← c.wanted_byte-want.ensures) (ne_eqb _ _ c.if-got-want.true)))

pub loop-i-preserved : goal.loop-i-preserved
unfolding is_wanted
loop-i-preserved c = first_more _ _ c.loop-i.invariant (rw (← c.wanted_byte-want.ensures) (eq-eqb _ _ c.if-got-want.false))

pub returns : goal.returns
returns c = sym (first_end _ _ _ (omega arith) (omega arith) c.loop-i.invariant)
