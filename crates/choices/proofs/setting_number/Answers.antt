-- `choices::setting_number` meets its contract: the tests in their order. Assumes nothing.
use mathlib.Core.Path.{sym, ◌∙◌}
use borrow.Author.Tests.{eq-eqb, ne_eqb}
use Rattle.laws.specs.Index.{every}
use Rattle.merge_rules.specs.Call.{setting_number}
use Rattle.choices.proofs.setting_number.Goals as goal

pub returns-then-not-named : goal.returns-then-not-named
unfolding setting_number every
returns-then-not-named c = rw (c.if-not-named.true)

pub returns-then-not-in_ranges : goal.returns-then-not-in_ranges
unfolding setting_number every
returns-then-not-in_ranges c = rw (c.if-not-named.false, sym c.in_ranges.ensures ∙ c.if-not-in_ranges.true)

pub returns-then-not-plain : goal.returns-then-not-plain
unfolding setting_number every
returns-then-not-plain c = rw (c.if-not-named.false, sym c.in_ranges.ensures ∙ c.if-not-in_ranges.false, sym c.plain.ensures ∙ c.if-not-plain.true)

pub returns-then-not-srgb_allowed : goal.returns-then-not-srgb_allowed
unfolding setting_number every
returns-then-not-srgb_allowed c = rw (c.if-not-named.false, sym c.in_ranges.ensures ∙ c.if-not-in_ranges.false, sym c.plain.ensures ∙ c.if-not-plain.false, sym c.srgb_allowed.ensures ∙ c.if-not-srgb_allowed.true)

pub returns-then-matrix-matrix_count : goal.returns-then-matrix-matrix_count
unfolding setting_number every
returns-then-matrix-matrix_count c = rw (c.if-not-named.false, sym c.in_ranges.ensures ∙ c.if-not-in_ranges.false, sym c.plain.ensures ∙ c.if-not-plain.false, sym c.srgb_allowed.ensures ∙ c.if-not-srgb_allowed.false, ← c.matrix_count.ensures, ne_eqb _ _ c.if-matrix-matrix_count.true)

pub returns : goal.returns
unfolding setting_number every
returns c = rw (c.if-not-named.false, sym c.in_ranges.ensures ∙ c.if-not-in_ranges.false, sym c.plain.ensures ∙ c.if-not-plain.false, sym c.srgb_allowed.ensures ∙ c.if-not-srgb_allowed.false, ← c.matrix_count.ensures, eq-eqb _ _ c.if-matrix-matrix_count.false)
