-- `listing_text::put_lines` meets its contract: what is left to write here is the whole at the start.
use Rattle.box_rules.proofs.Walking.{forward_skip, forward_meet}
use Rattle.listing_text.proofs.Writes.{going_start, going_more, going_same, going_done, lines_end, lines_broken, lines_skip, lines_meet}
use mathlib.Core.Path.{sym, ◌∙◌}
use native.Mathlib.Omega.{arith}
use Rattle.listing_text.proofs.put_lines.Goals as goal

pub loop-next-init : goal.loop-next-init
loop-next-init c = (going_start _ _ _, omega arith, omega arith)

pub returns-in-End : goal.returns-in-End
returns-in-End c = record { wrote = going_done c.loop-next.invariant.0 (lines_end _ _ (sym c.step_at.ensures ∙ c.in-End.is)); upper_bound = omega arith }

pub returns-in-Broken : goal.returns-in-Broken
returns-in-Broken c = record { wrote = going_done c.loop-next.invariant.0 (lines_broken _ _ (sym c.step_at.ensures ∙ c.in-Broken.is)); upper_bound = omega arith }

pub loop-next-smaller-in-Skip : goal.loop-next-smaller-in-Skip
loop-next-smaller-in-Skip c = omega (arith, forward_skip _ _ (sym c.step_at.ensures ∙ c.in-Skip.is))

pub loop-next-preserved-in-Skip : goal.loop-next-preserved-in-Skip
loop-next-preserved-in-Skip c = let e = sym c.step_at.ensures ∙ c.in-Skip.is in
    let f = forward_skip _ _ e in
    (going_same c.loop-next.invariant.0 (lines_skip _ _ e), omega arith, omega arith)

pub put_line-to-requires : goal.put_line-to-requires
put_line-to-requires c = let f = forward_meet _ _ (sym c.step_at.ensures ∙ c.in-Meet.is) in omega arith

pub loop-next-smaller : goal.loop-next-smaller
loop-next-smaller c = omega (arith, forward_meet _ _ (sym c.step_at.ensures ∙ c.in-Meet.is))

pub loop-next-preserved : goal.loop-next-preserved
loop-next-preserved c = let e = sym c.step_at.ensures ∙ c.in-Meet.is in
    let f = forward_meet _ _ e in
    (going_more c.loop-next.invariant.0 c.put_line-to.ensures.wrote _ (lines_meet _ _ e), omega (arith, c.put_line-to.ensures.upper_bound), omega arith)
