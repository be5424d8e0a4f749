-- `settings::lengths_right` meets its contract. Assumes nothing.
use borrow.Author.Tests.{eq-eqb, ne_eqb}
use mathlib.Core.Path.{sym, ap, ◌∙◌}
use native.Mathlib.Omega.{arith}
use lib.Dec.{eqb}
use Rattle.laws.proofs.Tests.{every_pass, every_stop, every_last}
use Rattle.merge_rules.specs.Settings.{lengths_right}
use Rattle.settings.proofs.Laws.{count_small}
use Rattle.settings.proofs.lengths_right.Goals as goal

pub overflow_mul-count : goal.overflow_mul-count
overflow_mul-count c = record { fits = omega (arith, count_small c.args.s.components c.args.pixels c.requires.components_right c.requires.pixels_few) }

pub returns-then-base-count : goal.returns-then-base-count
unfolding lengths_right
returns-then-base-count c = sym (every_stop _ _ (ne_eqb _ _ c.if-base-count.true))

pub returns-then-residual-residual_count : goal.returns-then-residual-residual_count
unfolding lengths_right
returns-then-residual-residual_count c = sym (every_pass _ _ (eq-eqb _ _ c.if-base-count.false) ∙ every_stop _ _ (ne_eqb _ _ (λ e. c.if-residual-residual_count.true (e ∙ sym c.residual_count.ensures))))

pub returns : goal.returns
unfolding lengths_right
returns c = ap (eqb _) c.table_count-entries.ensures ∙ sym (every_pass _ _ (eq-eqb _ _ c.if-base-count.false) ∙ every_pass _ _ (eq-eqb _ _ (c.if-residual-residual_count.false ∙ c.residual_count.ensures)) ∙ every_last _)
