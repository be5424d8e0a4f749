-- `records::lent` meets its contract. Assumes nothing.
use Rattle.test_rules.proofs.Fields.{lent_is}
use Rattle.records.proofs.lent.Goals as goal

pub returns : goal.returns
returns c = lent_is _ _ c.number_at-n.ensures.0 c.past-start.ensures c.part.ensures
