-- `codes::kraft_of` meets its contract. Assumes nothing.
use Rattle.bit_rules.proofs.Tables.{weigh_turn, weigh_end}
use native.Mathlib.Omega.{arith}
use Rattle.codes.proofs.kraft_of.Goals as goal

pub loop-n-preserved : goal.loop-n-preserved
loop-n-preserved c = weigh_turn c.loop-n.invariant c.loop-n-test.true c.from.ensures (omega (arith, c.from.ensures, c.type_inv.counts c.loop-n.n-index))

pub returns : goal.returns
returns c = weigh_end c.loop-n.invariant c.loop-n-test.false
