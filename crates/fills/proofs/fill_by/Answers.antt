-- `fills::fill_by` meets its contract: one component or three. Assumes nothing.
use mathlib.Core.Logic.{⊎_elim}
use Rattle.merge_rules.proofs.Components.{one_or_three_lem}
use Rattle.fills.proofs.fill_by.Goals as goal

pub fill_three-requires : goal.fill_three-requires
fill_three-requires c = record { lending = c.requires.lending; components_value = (⊎_elim (λ e. absurd (c.if-s-eq1.false e)) (λ e. e) (one_or_three_lem _ c.requires.lending.ranged.components_right), c.requires.pixels_in_bounds) }
