-- `pixel::alone` meets its contract. Assumes nothing.
use mathlib.Core.Path.{ap, ◌∙◌}
use mir.Facts.{to_z-of_z}
use Rattle.merge_rules.specs.Near.{clip}
use Rattle.merge_rules.specs.Steps.{alone}
use Rattle.pixel.proofs.alone.Goals as goal

pub returns : goal.returns
unfolding alone
returns c = c.clip.ensures ∙ ap (λ z. clip z c.top_of.result) (to_z-of_z c.ranges.b) ∙ ap (clip c.args.b) c.top_of.ensures.0
