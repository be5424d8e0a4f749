-- `settings::in_ranges` meets its contract. Assumes nothing.
use borrow.Author.Tests.{le-leb, lt-leb}
use mathlib.Core.Path.{sym, ◌∙◌}
use Rattle.laws.proofs.Tests.{every_pass, every_stop, every_last}
use Rattle.merge_rules.specs.Settings.{in_ranges}
use Rattle.settings.proofs.in_ranges.Goals as goal

pub returns-then-s-lt1 : goal.returns-then-s-lt1
unfolding in_ranges
returns-then-s-lt1 c = sym (every_stop _ _ (lt-leb _ _ c.if-s-lt1.true))

pub returns-then-s-gt8 : goal.returns-then-s-gt8
unfolding in_ranges
returns-then-s-gt8 c = sym (every_pass _ _ (le-leb _ _ c.if-s-lt1.false) ∙ every_stop _ _ (lt-leb _ _ c.if-s-gt8.true))

pub returns-then-s-gt4 : goal.returns-then-s-gt4
unfolding in_ranges
returns-then-s-gt4 c = sym (every_pass _ _ (le-leb _ _ c.if-s-lt1.false) ∙ every_pass _ _ (le-leb _ _ c.if-s-gt8.false) ∙ every_stop _ _ (lt-leb _ _ c.if-s-gt4.true))

pub returns-then-s-gt4-2 : goal.returns-then-s-gt4-2
unfolding in_ranges
returns-then-s-gt4-2 c = sym (every_pass _ _ (le-leb _ _ c.if-s-lt1.false) ∙ every_pass _ _ (le-leb _ _ c.if-s-gt8.false) ∙ every_pass _ _ (le-leb _ _ c.if-s-gt4.false) ∙ every_stop _ _ (lt-leb _ _ c.if-s-gt4-2.true))

pub returns-then-not-one_or_three : goal.returns-then-not-one_or_three
unfolding in_ranges
returns-then-not-one_or_three c = sym (every_pass _ _ (le-leb _ _ c.if-s-lt1.false) ∙ every_pass _ _ (le-leb _ _ c.if-s-gt8.false) ∙ every_pass _ _ (le-leb _ _ c.if-s-gt4.false) ∙ every_pass _ _ (le-leb _ _ c.if-s-gt4-2.false) ∙ every_stop _ _ (sym c.one_or_three.ensures ∙ c.if-not-one_or_three.true))

pub returns : goal.returns
unfolding in_ranges
returns c = sym (every_pass _ _ (le-leb _ _ c.if-s-lt1.false) ∙ every_pass _ _ (le-leb _ _ c.if-s-gt8.false) ∙ every_pass _ _ (le-leb _ _ c.if-s-gt4.false) ∙ every_pass _ _ (le-leb _ _ c.if-s-gt4-2.false) ∙ every_pass _ _ (sym c.one_or_three.ensures ∙ c.if-not-one_or_three.false) ∙ every_last _)
