-- `segments::be64` meets its contract.
use Rattle.box_rules.specs.Walk.{be64}
use borrow.Author.Rules.{rules}
use Rattle.segments.proofs.be64.Goals as goal

pub returns : goal.returns
unfolding be64
returns c = search rules
