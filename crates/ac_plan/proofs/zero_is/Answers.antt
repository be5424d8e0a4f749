-- `ac_plan::zero_is` meets its contract. Assumes nothing.
use mathlib.Core.Path.{ap}
use native.Mathlib.Omega.{arith}
use mir.Syntax.{w32}
use mir.Val.{of_z}
use Rattle.plane_rules.proofs.Halves.{kind_zero}
use Rattle.ac_plan.proofs.KindTests.{is_zero, not_zero}
use Rattle.ac_plan.proofs.zero_is.Goals as goal

pub returns-then-value-eq0 : goal.returns-then-value-eq0
returns-then-value-eq0 c = (rw (is_zero c.ranges.value c.if-value-eq0.true, kind_zero), omega arith)

pub returns : goal.returns
returns c = (not_zero _ (λ e. c.if-value-eq0.false (ap (of_z w32) e)), omega arith)
