-- `bit_putter::low` meets its contract. Assumes nothing.
use native.Mathlib.Nat.{mod-lt}
use lib.Pow.{pow_pos}
use native.Mathlib.Omega.{arith}
use Rattle.bit_putter.proofs.Gathering.{one_moved, masked}
use Rattle.bit_putter.proofs.low.Goals as goal

pub overflow_sub-result : goal.overflow_sub-result
overflow_sub-result c = omega (arith, one_moved c.args.n c.requires, pow_pos c.args.n)

pub returns : goal.returns
returns c = let e = masked c.args.number c.args.n c.requires in
    (e, rw e (mod-lt c.args.number (pow_pos c.args.n)))
