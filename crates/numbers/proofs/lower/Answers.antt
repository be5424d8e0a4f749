-- `numbers::lower` meets its contract.
use Rattle.std.specs.Prelude.{Some}
use Rattle.box_rules.proofs.Counts.{least_right}
use Rattle.box_rules.specs.Numbers.{least}
use mathlib.Core.Path.{ap}
use native.Mathlib.Omega.{arith}
use borrow.Author.Tests.{eq-eqb, ne_eqb}
use Rattle.numbers.proofs.lower.Goals as goal

pub returns-then-again-eq0 : goal.returns-then-again-eq0
returns-then-again-eq0 c = simp (eq-eqb _ _ c.if-again-eq0.true) (least_right _)

pub returns-in-None : goal.returns-in-None
unfolding least
returns-in-None c = rw (c.in-None.is, ne_eqb _ _ c.if-again-eq0.false)

pub returns-then-a-q : goal.returns-then-a-q
unfolding least
returns-then-a-q c = rw (c.in-Some.is, ne_eqb _ _ c.if-again-eq0.false) (ap Some (omega arith))

pub returns-else-a-q : goal.returns-else-a-q
unfolding least
returns-else-a-q c = rw (c.in-Some.is, ne_eqb _ _ c.if-again-eq0.false) (ap Some (omega arith))
