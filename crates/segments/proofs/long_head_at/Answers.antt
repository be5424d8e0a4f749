-- `segments::long_head_at` meets its contract: field by field.
use Rattle.box_rules.specs.Walk.{long_head_at}
use Rattle.segments.proofs.long_head_at.Goals as goal

pub returns : goal.returns
unfolding long_head_at
returns c = rw (← c.head_at-head.ensures, ← c.be64.ensures)
