-- `rounding::clip` meets its contract. Assumes nothing.
use mathlib.Core.Path.{ap, ◌∙◌}
use mir.Facts.{to_z-of_z}
use Rattle.merge_rules.specs.Near.{clip}
use Rattle.rounding.proofs.clip.Goals as goal

pub returns : goal.returns
returns c = c.lowered.ensures ∙ c.raised.ensures c.args.top ∙ ap (λ z. clip z c.args.top) (to_z-of_z c.ranges.v)
