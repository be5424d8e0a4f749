-- `records::pair_at` meets its contract. Assumes nothing.
use native.Mathlib.Omega.{arith}
use Rattle.test_rules.proofs.Fields.{pair_is}
use Rattle.records.proofs.pair_at.Goals as goal

pub returns : goal.returns
returns c = (pair_is _ _ c.past-next.ensures c.byte_at.ensures.0 c.byte_at-2.ensures.0, omega (arith, c.byte_at.ensures.1, c.byte_at-2.ensures.1))
