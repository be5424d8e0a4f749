-- `transform::first_bad_quantiser` meets its contract: before index i every entry is a quantiser. Assumes nothing.
use mathlib.Core.Path.{sym, ◌∙◌}
use lib.ListN.{get_or}
use Rattle.laws.proofs.First.{first_start, first_more, first_found, first_end}
use Rattle.transform_rules.specs.Call.{is_quantiser, first_bad_quantiser}
use Rattle.transform.proofs.first_bad_quantiser.Goals as goal

pub loop-i-init : goal.loop-i-init
loop-i-init c = first_start (λ k. is_quantiser (get_or c.args.quantisers.now k 0))

pub returns-then-not-is_quantiser : goal.returns-then-not-is_quantiser
unfolding first_bad_quantiser
returns-then-not-is_quantiser c = sym (first_found _ _ _ c.loop-i-test.true c.loop-i.invariant (sym c.is_quantiser.ensures ∙ c.if-not-is_quantiser.true))

pub loop-i-preserved : goal.loop-i-preserved
loop-i-preserved c = first_more _ _ c.loop-i.invariant (sym c.is_quantiser.ensures ∙ c.if-not-is_quantiser.false)

pub returns : goal.returns
unfolding first_bad_quantiser
returns c = sym (first_end _ _ _ c.loop-i.auto.i-end c.loop-i-test.false c.loop-i.invariant)
