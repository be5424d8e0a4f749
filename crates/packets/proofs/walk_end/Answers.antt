-- `packets::walk_end` meets its contract: the walk from here ends as the walk from the start does.
use Rattle.box_rules.proofs.Walking.{forward_skip, forward_meet, ending_end, ending_broken, ending_skip, ending_meet}
use mathlib.Core.Path.{refl, sym, ◌∙◌}
use native.Mathlib.Omega.{arith}
use Rattle.packets.proofs.walk_end.Goals as goal

pub loop-r-init : goal.loop-r-init
loop-r-init c = refl

pub returns-in-End : goal.returns-in-End
returns-in-End c = sym (ending_end _ _ (sym c.step_at.ensures ∙ c.in-End.is)) ∙ c.loop-r.invariant

pub returns-in-Broken : goal.returns-in-Broken
returns-in-Broken c = sym (ending_broken _ _ (sym c.step_at.ensures ∙ c.in-Broken.is)) ∙ c.loop-r.invariant

pub loop-r-smaller-in-Skip : goal.loop-r-smaller-in-Skip
loop-r-smaller-in-Skip c = omega (arith, forward_skip _ _ (sym c.step_at.ensures ∙ c.in-Skip.is))

pub loop-r-preserved-in-Skip : goal.loop-r-preserved-in-Skip
loop-r-preserved-in-Skip c = sym (ending_skip _ _ (sym c.step_at.ensures ∙ c.in-Skip.is)) ∙ c.loop-r.invariant

pub loop-r-smaller : goal.loop-r-smaller
loop-r-smaller c = omega (arith, forward_meet _ _ (sym c.step_at.ensures ∙ c.in-Meet.is))

pub loop-r-preserved : goal.loop-r-preserved
loop-r-preserved c = sym (ending_meet _ _ (sym c.step_at.ensures ∙ c.in-Meet.is)) ∙ c.loop-r.invariant
