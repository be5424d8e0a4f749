-- `segments::be32` meets its contract.
use Rattle.box_rules.specs.Walk.{be32}
use borrow.Author.Rules.{rules}
use Rattle.segments.proofs.be32.Goals as goal

pub returns : goal.returns
unfolding be32
returns c = search rules
