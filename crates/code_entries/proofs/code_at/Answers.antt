-- `code_entries::code_at` meets its contract. Assumes nothing.
use Rattle.code_entries.proofs.Assigning.{assign_first, assign_small, assign_end, assigned, assign_turn}
use native.Mathlib.Omega.{arith}
use Rattle.code_entries.proofs.code_at.Goals as goal

pub loop-l-init : goal.loop-l-init
loop-l-init c = assign_first c.requires.0 c.requires.1

pub overflow_cast-result : goal.overflow_cast-result
overflow_cast-result c = omega (arith, assign_small c.requires.0 c.loop-l.invariant c.loop-l-test.true)

pub returns-then-k-n : goal.returns-then-k-n
returns-then-k-n c = assigned c.requires.0 c.loop-l.invariant c.loop-l-test.true c.from-n.ensures (omega (arith, c.from-n.ensures, c.type_inv.counts c.loop-l.l)) c.if-k-n.true

pub loop-l-preserved : goal.loop-l-preserved
loop-l-preserved c = assign_turn c.requires.0 c.loop-l.invariant c.loop-l-test.true c.from-n.ensures (omega (arith, c.from-n.ensures, c.type_inv.counts c.loop-l.l)) c.if-k-n.false

pub returns : goal.returns
returns c = absurd (assign_end c.requires.0 c.loop-l.invariant c.loop-l-test.false)
