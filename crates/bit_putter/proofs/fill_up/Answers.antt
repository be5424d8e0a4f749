-- `bit_putter::fill_up` meets its contract: what is left to fill comes to the same byte. Assumes nothing.
use mathlib.Core.Path.{◌∙◌}
use Rattle.bit_putter.proofs.Putting.{padded_on, padded_end, room_on}
use native.Mathlib.Omega.{arith}
use Rattle.bit_putter.proofs.fill_up.Goals as goal

pub loop-preserved : goal.loop-preserved
loop-preserved c = (padded_on _ _ _ c.loop-test.true ∙ c.loop.invariant.0, room_on _ _ _ c.requires.0 c.loop-test.true c.loop.invariant.1)

pub returns : goal.returns
returns c = padded_end _ _ (omega arith) ∙ c.loop.invariant.0
