-- `segments::be16` meets its contract.
use Rattle.box_rules.specs.Walk.{be16}
use borrow.Author.Rules.{rules}
use Rattle.segments.proofs.be16.Goals as goal

pub returns : goal.returns
unfolding be16
returns c = search rules
