-- `segments::head_at` meets its contract: field by field.
use Rattle.box_rules.specs.Walk.{head_at}
use Rattle.segments.proofs.head_at.Goals as goal

pub returns : goal.returns
unfolding head_at
returns c = rw (c.be16.ensures, c.be32.ensures, c.from.ensures, c.be32-2.ensures, c.be32-3.ensures)
