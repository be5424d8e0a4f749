-- `bits::ones_left` meets its contract: what is left to look at has the answer of the whole. Assumes nothing.
use mathlib.Core.Path.{◌≡◌, sym, ◌∙◌}
use Prim.Native.Nat.{◌+◌, ◌-◌}
use native.Mathlib.Omega.{arith}
use Rattle.bits.proofs.Taking.{ones_stop, ones_on, ones_end}
use Rattle.bits.proofs.ones_left.Goals as goal

pub returns-then-b-ne1 : goal.returns-then-b-ne1
returns-then-b-ne1 c = sym (ones_stop _ _ (omega arith) c.if-b-ne1.true) ∙ c.loop.invariant

pub loop-preserved : goal.loop-preserved
loop-preserved c = let next : c.args.left - (c.loop.counter + 1) ≡ c.args.left - c.loop.counter - 1 = omega arith in
    rw next (ones_on (c.args.left - c.loop.counter) _ (omega arith) c.if-b-ne1.false ∙ c.loop.invariant)

pub returns : goal.returns
returns c = ones_end _ _ (omega arith) ∙ c.loop.invariant
