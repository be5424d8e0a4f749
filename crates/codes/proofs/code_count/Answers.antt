-- `codes::code_count` meets its contract. Assumes nothing.
use native.Mathlib.Omega.{arith}
use Rattle.bit_rules.proofs.Tables.{sum_turn, sum_end}
use Rattle.codes.proofs.code_count.Goals as goal

pub loop-n-preserved : goal.loop-n-preserved
loop-n-preserved c = sum_turn c.loop-n.invariant c.loop-n-test.true c.from-sum.ensures (omega (arith, c.from-sum.ensures, c.type_inv.counts c.loop-n.n-index))

pub returns : goal.returns
returns c = sum_end c.loop-n.invariant c.loop-n-test.false
