-- `curves::make_tones` meets its contract: behind x turns the first x tones are there. Assumes nothing.
use mathlib.Core.Path.{◌≡◌, subst}
use Prim.Native.Nat.{◌+◌, ◌^◌}
use native.Mathlib.Omega.{arith}
use Rattle.curves.specs.Code.{Tones}
use Rattle.curves.proofs.Laws.{tones_one}
use Rattle.curves.proofs.make_tones.Goals as goal

pub loop-x-preserved : goal.loop-x-preserved
loop-x-preserved c = tones_one c.loop-x.invariant (omega (arith, c.power-entries.ensures)) c.tone-t.result c.tone-t.ensures

pub returns : goal.returns
returns c = let all : c.loop-x.x ≡ 2 ^ (8 + c.args.rh) = omega (arith, c.power-entries.ensures) in
    subst (λ n. Tones c.args.rb c.args.rh n c.loop-x.tones) all c.loop-x.invariant
