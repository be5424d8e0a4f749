-- `records::number_at` meets its contract. Assumes nothing.
use native.Mathlib.Omega.{arith}
use Rattle.test_rules.proofs.Fields.{number_is}
use Rattle.records.proofs.number_at.Goals as goal

pub returns : goal.returns
returns c = (number_is _ _ c.past-next.ensures c.pair_at.ensures.0 c.pair_at-2.ensures.0, omega (arith, c.pair_at.ensures.1, c.pair_at-2.ensures.1))
