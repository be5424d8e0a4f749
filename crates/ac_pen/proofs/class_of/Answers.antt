-- `ac_pen::class_of` meets its contract: the halvings made, and those still to make, are those of the whole. Assumes nothing.
use Rattle.ac_pen.proofs.Classes.{class_turn, class_here, class_end}
use native.Mathlib.Omega.{arith}
use Rattle.ac_pen.proofs.class_of.Goals as goal

pub returns-then-m-lt2 : goal.returns-then-m-lt2
returns-then-m-lt2 c = (class_here _ _ _ c.loop-r-test.true c.if-m-lt2.true c.loop-r.invariant, omega arith)

pub loop-r-preserved : goal.loop-r-preserved
loop-r-preserved c = class_turn _ _ _ c.loop-r-test.true c.if-m-lt2.false c.loop-r.invariant

pub returns : goal.returns
returns c = (class_end _ _ _ (omega arith) c.loop-r.invariant, omega arith)
