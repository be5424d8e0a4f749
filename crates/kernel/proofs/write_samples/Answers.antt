-- `kernel::write_samples` meets its contract: behind p samples the destination holds p of the block's. Assumes nothing.
use native.Mathlib.Omega.{arith}
use mathlib.Core.Path.{◌≡◌, sym, ◌∙◌}
use Prim.Native.Nat.{◌+◌, ◌<◌}
use lib.ListN.{length}
use mir.Syntax.{w32, w64}
use mir.Val.{to_z, of_z}
use mir.Facts.{to_z-of_z}
use Rattle.laws.proofs.Integers.{back}
use Rattle.laws.proofs.Fill.{fill_start, fill_turn}
use Rattle.transform_rules.specs.Samples.{block_samples}
use Rattle.kernel.proofs.write_samples.Invariants.{sample-of}
use Rattle.kernel.proofs.write_samples.Goals as goal

pub loop-p-init : goal.loop-p-init
loop-p-init c = sym (fill_start c.args.destination.now c.args.at (sample-of c.args.s.now (to_z w64 (of_z w64 c.args.centre))))

pub loop-p-preserved : goal.loop-p-preserved
loop-p-preserved c = let room : c.args.at + c.loop-p.p < length c.args.destination.now = omega arith in
    rw (back w32 c.sample-w.result c.sample-w.type_inv, c.sample-w.ensures, c.loop-p.invariant) (fill_turn c.args.destination.now c.args.at (sample-of c.args.s.now (to_z w64 (of_z w64 c.args.centre))) c.loop-p.p room)

pub returns : goal.returns
unfolding block_samples
returns c = let e : c.loop-p.p ≡ 64 = omega arith in
    c.loop-p.invariant ∙ rw (e, to_z-of_z c.ranges.centre)
