-- `codes::all_distinct` meets its contract: what is left to look at has the answer of the whole. Assumes nothing.
use mathlib.Core.Path.{sym, ◌∙◌}
use Rattle.bit_rules.proofs.Tables.{distinct_end, distinct_no, distinct_on}
use Rattle.codes.proofs.all_distinct.Goals as goal

pub returns-then-holds_from : goal.returns-then-holds_from
returns-then-holds_from c = sym (distinct_no _ _ c.loop-i-test.true (sym c.holds_from.ensures ∙ c.if-holds_from.true)) ∙ c.loop-i.invariant

pub loop-i-preserved : goal.loop-i-preserved
loop-i-preserved c = sym (distinct_on _ _ c.loop-i-test.true (sym c.holds_from.ensures ∙ c.if-holds_from.false)) ∙ c.loop-i.invariant

pub returns : goal.returns
returns c = sym (distinct_end _ _ c.loop-i-test.false) ∙ c.loop-i.invariant
