-- `planes::close_plane` meets its contract. Assumes nothing.
use mathlib.Core.Path.{sym, ◌∙◌}
use Rattle.plane_rules.specs.Plane.{closed}
use Rattle.planes.proofs.close_plane.Goals as goal

pub returns-then-is_padding : goal.returns-then-is_padding
unfolding closed
returns-then-is_padding c = record { told = λ values n. rw (sym c.is_padding.ensures ∙ c.if-is_padding.true, n) }

pub returns : goal.returns
unfolding closed
returns c = record { told = λ values n. c.refuse.ensures ∙ rw (sym c.is_padding.ensures ∙ c.if-is_padding.false, c.seen.ensures) }
