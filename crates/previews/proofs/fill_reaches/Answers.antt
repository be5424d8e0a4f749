-- `previews::fill_reaches` meets its contract: behind p entries the first p are there. Assumes nothing.
use mathlib.Core.Path.{◌≡◌, sym, ◌∙◌}
use native.Mathlib.Omega.{arith}
use Rattle.laws.proofs.Fill.{front_start, front_turn, front_end}
use Rattle.previews.specs.Code.{reach_table}
use Rattle.previews.proofs.fill_reaches.Invariants.{reach_of}
use Rattle.previews.proofs.fill_reaches.Goals as goal

pub loop-p-init : goal.loop-p-init
loop-p-init c = sym (front_start c.args.reaches.now (reach_of c.args.rows.now))

pub loop-p-preserved : goal.loop-p-preserved
loop-p-preserved c = rw (c.along.ensures, c.loop-p.invariant) (front_turn c.args.reaches.now (reach_of c.args.rows.now) c.loop-p.p c.loop-p-test.true)

pub returns : goal.returns
unfolding reach_table
returns c = let e : c.loop-p.p ≡ 32 = omega (arith, c.requires.rows_len.1) in
    c.loop-p.invariant ∙ rw e (front_end c.args.reaches.now (reach_of c.args.rows.now) 32 c.requires.rows_len.1)
