-- `ac_plan::ahead_of` meets its contract: what is seen from here, behind the zeros passed, is what is seen from the start. Assumes nothing.
use mathlib.Core.Path.{refl, ap, ◌∙◌}
use mathlib.Core.Bool.{true, false}
use native.Mathlib.Omega.{arith}
use lib.IntN.{pos, negsuc}
use lib.ListN.{get_or}
use mir.Syntax.{w32}
use mir.Val.{of_z}
use Rattle.laws.proofs.Integers.{back}
use Rattle.plane_rules.specs.AcWrite.{kind_of}
use Rattle.plane_rules.proofs.Halves.{kind_one, kind_minus_one}
use Rattle.ac_plan.specs.Code.{still_is}
use Rattle.ac_plan.proofs.KindTests.{is_one, is_minus_one}
use Rattle.ac_plan.proofs.Looking.{look_start, look_end, look_on, look_new}
use Rattle.ac_plan.proofs.ahead_of.Goals as goal

pub loop-i-init : goal.loop-i-init
loop-i-init c = look_start _ _

pub returns-then-value-eq1 : goal.returns-then-value-eq1
returns-then-value-eq1 c = look_new c.loop-i.invariant (pos 1) true c.loop-i-test.true (is_one (record { sfits = c.value-1.given }) c.if-value-eq1.true) kind_one

pub returns-then-value : goal.returns-then-value
returns-then-value c = look_new c.loop-i.invariant (negsuc 0) false c.loop-i-test.true (is_minus_one (record { sfits = c.value-1.given }) c.if-value.true) kind_minus_one

pub overflow_add-zeros : goal.overflow_add-zeros
overflow_add-zeros c = omega (arith, c.zero_is-zeros.ensures.1, c.loop-i.invariant.within, c.loop-i-test.true, c.well_formed.0)

pub loop-i-preserved : goal.loop-i-preserved
loop-i-preserved c = let v = get_or c.args.block.now c.loop-i.i (pos 0) in
    rw (c.zero_is-zeros.ensures.0 ∙ ap (λ x. still_is (kind_of x)) (back w32 v c.value-1.given))
    (look_on c.loop-i.invariant v c.loop-i-test.true refl (λ e. c.if-value-eq1.false (ap (of_z w32) e)) (λ e. c.if-value.false (ap (of_z w32) e)))

pub returns : goal.returns
returns c = look_end c.loop-i.invariant (omega arith)
