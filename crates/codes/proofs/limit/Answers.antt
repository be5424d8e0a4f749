-- `codes::limit` meets its contract. Assumes nothing.
use Rattle.bit_rules.specs.Lookup.{largest_of, limit_of}
use Rattle.bit_rules.proofs.Lookups.{limit_some}
use Rattle.codes.proofs.limit.Goals as goal

pub returns-then-n-eq0 : goal.returns-then-n-eq0
unfolding limit_of largest_of
returns-then-n-eq0 c = rw c.if-n-eq0.true

pub returns : goal.returns
returns c = limit_some _ _ c.if-n-eq0.false
