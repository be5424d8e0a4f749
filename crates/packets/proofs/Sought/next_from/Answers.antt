-- `packets::Sought::next_from` meets its contract: the packets from here on are those from the start on.
use Rattle.box_rules.proofs.Walking.{forward_skip, forward_meet, ending_skip, ending_meet}
use Rattle.packets.proofs.Meeting.{mine_end, mine_broken, mine_skip, mine_other, mine_met}
use mathlib.Core.Path.{sym, ◌∙◌}
use native.Mathlib.Omega.{arith}
use Rattle.packets.proofs.Sought.next_from.Goals as goal

pub returns-in-End : goal.returns-in-End
returns-in-End c = sym c.loop-next.invariant.0 ∙ mine_end _ _ _ _ (sym c.step_at.ensures ∙ c.in-End.is)

pub returns-in-Broken : goal.returns-in-Broken
returns-in-Broken c = sym c.loop-next.invariant.0 ∙ mine_broken _ _ _ _ (sym c.step_at.ensures ∙ c.in-Broken.is)

pub loop-next-smaller-in-Skip : goal.loop-next-smaller-in-Skip
loop-next-smaller-in-Skip c = omega (arith, forward_skip _ _ (sym c.step_at.ensures ∙ c.in-Skip.is))

pub loop-next-preserved-in-Skip : goal.loop-next-preserved-in-Skip
loop-next-preserved-in-Skip c = let e = sym c.step_at.ensures ∙ c.in-Skip.is in
    (sym (mine_skip _ _ _ _ e) ∙ c.loop-next.invariant.0, omega (arith, forward_skip _ _ e), c.loop-next.invariant.2 ∙ ending_skip _ _ e)

pub returns-then-is_mine : goal.returns-then-is_mine
returns-then-is_mine c = let e = sym c.step_at.ensures ∙ c.in-Meet.is in
    let f = forward_meet _ _ e in
    record {
      list = sym c.loop-next.invariant.0 ∙ mine_met _ _ _ _ e (sym c.is_mine.ensures ∙ c.if-is_mine.true);
      after = omega arith;
      reach = f.1;
      inside = f.2;
      same = c.loop-next.invariant.2 ∙ ending_meet _ _ e;
    }

pub loop-next-smaller : goal.loop-next-smaller
loop-next-smaller c = omega (arith, forward_meet _ _ (sym c.step_at.ensures ∙ c.in-Meet.is))

pub loop-next-preserved : goal.loop-next-preserved
loop-next-preserved c = let e = sym c.step_at.ensures ∙ c.in-Meet.is in
    (sym (mine_other _ _ _ _ e (sym c.is_mine.ensures ∙ c.if-is_mine.false)) ∙ c.loop-next.invariant.0, omega (arith, forward_meet _ _ e), c.loop-next.invariant.2 ∙ ending_meet _ _ e)
