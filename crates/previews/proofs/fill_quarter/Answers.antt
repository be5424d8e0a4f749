-- `previews::fill_quarter` meets its contract: behind p numbers the first p are there. Assumes nothing.
use mathlib.Core.Path.{◌≡◌, sym, ◌∙◌}
use Prim.Native.Nat.{◌/◌, ◌%◌}
use native.Mathlib.Omega.{arith}
use Rattle.laws.proofs.Fill.{front_start, front_turn, front_end}
use Rattle.previews.specs.Code.{quarter}
use Rattle.previews.proofs.Weights.{along_small}
use Rattle.previews.proofs.fill_quarter.Invariants.{owed-of}
use Rattle.previews.proofs.fill_quarter.Goals as goal

pub loop-p-init : goal.loop-p-init
loop-p-init c = sym (front_start c.args.owed.now (owed-of c.args.d c.args.reaches.now))

pub owed_by-requires : goal.owed_by-requires
owed_by-requires c = (c.requires.le_d.0, (c.requires.le_d.1.0, rw c.along-w.ensures (along_small c.args.reaches.now c.requires.table_value.1.0 (c.loop-p.p / 4) (c.loop-p.p % 4) (omega (arith, c.requires.le_d.1.1)))))

pub loop-p-preserved : goal.loop-p-preserved
loop-p-preserved c = rw (c.owed_by.ensures, c.along-w.ensures, c.loop-p.invariant) (front_turn c.args.owed.now (owed-of c.args.d c.args.reaches.now) c.loop-p.p c.loop-p-test.true)

pub returns : goal.returns
unfolding quarter
returns c = let e : c.loop-p.p ≡ 16 = omega (arith, c.requires.le_d.1.1) in
    c.loop-p.invariant ∙ rw e (front_end c.args.owed.now (owed-of c.args.d c.args.reaches.now) 16 c.requires.le_d.1.1)
