-- `ac_plan::kind_of` meets its contract. Assumes nothing.
use mathlib.Core.Path.{ap}
use mir.Syntax.{w32}
use mir.Val.{of_z}
use mir.Facts.{to_z-of_z}
use Rattle.plane_rules.proofs.Halves.{kind_zero, kind_one, kind_minus_one}
use Rattle.ac_plan.specs.Code.{kind_is}
use Rattle.ac_plan.proofs.KindTests.{is_zero, is_one, is_minus_one, kept}
use Rattle.ac_plan.proofs.kind_of.Goals as goal

pub returns-then-value-eq0 : goal.returns-then-value-eq0
unfolding kind_is
returns-then-value-eq0 c = rw (is_zero c.ranges.value c.if-value-eq0.true, kind_zero)

pub returns-then-value-eq1 : goal.returns-then-value-eq1
unfolding kind_is
returns-then-value-eq1 c = rw (is_one c.ranges.value c.if-value-eq1.true, kind_one)

pub returns-then-value-eqminus1 : goal.returns-then-value-eqminus1
unfolding kind_is
returns-then-value-eqminus1 c = rw (is_minus_one c.ranges.value c.if-value-eqminus1.true, kind_minus_one)

pub returns : goal.returns
unfolding kind_is
returns c = rw (to_z-of_z c.ranges.value) (kept _ c.ranges.value (λ e. c.if-value-eq0.false (ap (of_z w32) e)) (λ e. c.if-value-eq1.false (ap (of_z w32) e)) (λ e. c.if-value-eqminus1.false (ap (of_z w32) e)))
