-- `fills::fill_one` meets its contract. Assumes nothing.
use Rattle.fills.proofs.Filling.{filling_start, filling_one, filling_end}
use Rattle.fills.proofs.fill_one.Goals as goal

pub loop-p-init : goal.loop-p-init
loop-p-init c = filling_start _ _ _ _ _ _

pub loop-p-preserved : goal.loop-p-preserved
loop-p-preserved c = filling_one _ _ _ _ _ _ c.loop-p.invariant c.requires.components_value.1 c.requires.components_value.0 c.loop-p-test.true c.one_at-v.result c.one_at-v.ensures

pub returns : goal.returns
returns c = filling_end _ _ _ _ _ _ c.loop-p.invariant c.requires.components_value.1 c.loop-p-test.false
