-- `codes::put_numbers` meets its contract: what is still to be stored makes the whole. Assumes nothing.
use Prim.Native.Nat.{◌+◌, ◌≤◌}
use Rattle.codes.proofs.Filling.{fill_start, fill_low, fill_turn, fill_end}
use native.Mathlib.Omega.{arith}
use Rattle.codes.proofs.put_numbers.Goals as goal

pub loop-l-init : goal.loop-l-init
loop-l-init c = fill_start _ _ c.requires.numbers_len c.requires.counts_len.0 c.requires.counts_len.1 c.requires.counts_len.2

pub overflow_cast-numbers : goal.overflow_cast-numbers
overflow_cast-numbers c = let low : c.loop-l.code + c.from-n.result ≤ 65535 = fill_low c.loop-l.invariant c.loop-l-test.true c.from-n.ensures in
    omega (arith, low)

pub limit-requires : goal.limit-requires
limit-requires c = fill_low c.loop-l.invariant c.loop-l-test.true c.from-n.ensures

pub loop-l-preserved : goal.loop-l-preserved
loop-l-preserved c = rw c.limit.ensures (fill_turn c.loop-l.invariant c.loop-l-test.true c.from-n.ensures)

pub returns : goal.returns
returns c = fill_end c.loop-l.invariant c.loop-l-test.false
