-- `asking::read_number` meets its contract: what the rest makes behind the value is what the word makes.
use Rattle.asking.proofs.Reading.{read_large, read_other, read_more, read_end}
use Rattle.asking.specs.Words.{digit}
use native.Mathlib.Nat.{mul-le-mul_right}
use lib.ListN.{get_or, drop_of_length-le}
use mathlib.Core.Path.{◌≡◌, sym, ap, ◌∙◌}
use native.Mathlib.Omega.{arith}
use Rattle.asking.proofs.read_number.Goals as goal

pub returns-then-value-gt268435455 : goal.returns-then-value-gt268435455
returns-then-value-gt268435455 c = sym (read_large _ _ _ c.loop-b.b-index c.loop-b-test.true c.if-value-gt268435455.true) ∙ c.loop-b.invariant.0

pub returns-then-base-d : goal.returns-then-base-d
returns-then-base-d c = let e : c.digit-d.result ≡ digit (get_or c.args.word.now c.loop-b.b-index 0) = c.digit-d.ensures.0 ∙ ap digit c.from.ensures in
    sym (read_other _ _ _ c.loop-b.b-index c.loop-b-test.true c.if-value-gt268435455.false (rw (← e) c.if-base-d.true)) ∙ c.loop-b.invariant.0

pub overflow_mul-value : goal.overflow_mul-value
overflow_mul-value c = omega (arith, mul-le-mul_right c.args.base c.if-value-gt268435455.false, c.requires)

pub overflow_add-value : goal.overflow_add-value
overflow_add-value c = omega (arith, mul-le-mul_right c.args.base c.if-value-gt268435455.false, c.requires, c.digit-d.ensures.1)

pub loop-b-preserved : goal.loop-b-preserved
loop-b-preserved c = let e : c.digit-d.result ≡ digit (get_or c.args.word.now c.loop-b.b-index 0) = c.digit-d.ensures.0 ∙ ap digit c.from.ensures in
    (rw e (sym (read_more _ _ _ c.loop-b.b-index c.loop-b-test.true c.if-value-gt268435455.false (rw (← e) c.if-base-d.false)) ∙ c.loop-b.invariant.0), omega (arith, mul-le-mul_right c.args.base c.if-value-gt268435455.false, c.requires, c.if-base-d.false))

pub returns : goal.returns
returns c = sym (read_end _ _ _ (drop_of_length-le c.args.word.now {i = c.loop-b.b-index} (omega arith))) ∙ c.loop-b.invariant.0
