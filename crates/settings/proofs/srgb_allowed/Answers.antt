-- `settings::srgb_allowed` meets its contract. Assumes nothing.
use borrow.Author.Tests.{eq-eqb, ne_eqb}
use mathlib.Core.Path.{sym, ◌∙◌}
use Rattle.laws.proofs.Tests.{every_pass, every_stop, every_last}
use Rattle.merge_rules.specs.Settings.{srgb_allowed}
use Rattle.settings.proofs.srgb_allowed.Goals as goal

pub returns-then-not-is_srgb : goal.returns-then-not-is_srgb
unfolding srgb_allowed
returns-then-not-is_srgb c = rw (sym c.is_srgb.ensures ∙ c.if-not-is_srgb.true)

pub returns-then-s-ne0 : goal.returns-then-s-ne0
unfolding srgb_allowed
returns-then-s-ne0 c = rw (sym c.is_srgb.ensures ∙ c.if-not-is_srgb.false) (sym (every_stop _ _ (ne_eqb _ _ c.if-s-ne0.true)))

pub returns : goal.returns
unfolding srgb_allowed
returns c = rw (sym c.is_srgb.ensures ∙ c.if-not-is_srgb.false) (sym (every_pass _ _ (eq-eqb _ _ c.if-s-ne0.false) ∙ every_last _))
