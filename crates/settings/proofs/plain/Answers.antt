-- `settings::plain` meets its contract. Assumes nothing.
use borrow.Author.Tests.{eq-eqb, ne_eqb}
use mathlib.Core.Path.{sym, ap, ◌∙◌}
use mathlib.Core.Bool.{not}
use Rattle.laws.proofs.Tests.{every_pass, every_stop, every_last}
use Rattle.merge_rules.specs.Settings.{plain}
use Rattle.settings.proofs.plain.Goals as goal

pub returns-then-s-ne1 : goal.returns-then-s-ne1
unfolding plain
returns-then-s-ne1 c = rw (ne_eqb c.args.s.components 1 c.if-s-ne1.true)

pub returns-then-is_transform : goal.returns-then-is_transform
unfolding plain
returns-then-is_transform c = rw (eq-eqb c.args.s.components 1 c.if-s-ne1.false) (sym (every_stop _ _ (ap not (sym c.is_transform.ensures ∙ c.if-is_transform.true))))

pub returns-then-is_transform-2 : goal.returns-then-is_transform-2
unfolding plain
returns-then-is_transform-2 c = rw (eq-eqb c.args.s.components 1 c.if-s-ne1.false) (sym (every_pass _ _ (ap not (sym c.is_transform.ensures ∙ c.if-is_transform.false)) ∙ every_stop _ _ (ap not (sym c.is_transform-2.ensures ∙ c.if-is_transform-2.true))))

pub returns : goal.returns
unfolding plain
returns c = rw (eq-eqb c.args.s.components 1 c.if-s-ne1.false) (ap not c.is_on.ensures ∙ sym (every_pass _ _ (ap not (sym c.is_transform.ensures ∙ c.if-is_transform.false)) ∙ every_pass _ _ (ap not (sym c.is_transform-2.ensures ∙ c.if-is_transform-2.false)) ∙ every_last _))
