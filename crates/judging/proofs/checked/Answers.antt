-- `judging::checked` meets its contract.
use native.Mathlib.Omega.{arith}
use Rattle.judging.proofs.Answers.{answer_5, answer_6, answer_7, answer_8, answer_size, answer_9, answer_0}
use borrow.Author.Tests.{not-true, not-false}
use mathlib.Core.Path.{sym, ◌∙◌}
use Rattle.judging.proofs.checked.Goals as goal

pub returns-then-not-c : goal.returns-then-not-c
returns-then-not-c c = rw c.not.ensures (answer_5 _ _ _ (sym c.requires.agrees ∙ not-true _ c.if-not-c.true))

pub returns-then-total-contents : goal.returns-then-total-contents
returns-then-total-contents c = rw (c.not-then-total-contents.ensures, c.requires.totals) (answer_8 _ _ _ (sym c.requires.agrees ∙ not-false _ c.if-not-c.false) (sym c.fault_of.ensures ∙ c.in-Fine.is) (λ e. c.if-total-contents.true (c.requires.totals ∙ e ∙ sym c.contents.ensures)))

pub returns-then-room-total : goal.returns-then-room-total
returns-then-room-total c = rw (c.not-then-room-total.ensures, c.requires.totals) (answer_9 _ _ _ (sym c.requires.agrees ∙ not-false _ c.if-not-c.false) (sym c.fault_of.ensures ∙ c.in-Fine.is) (sym c.requires.totals ∙ c.if-total-contents.false ∙ c.contents.ensures) (omega (arith, c.requires.totals)))

pub returns-in-Twice : goal.returns-in-Twice
returns-in-Twice c = rw c.not-in-Twice.ensures (answer_6 _ _ _ (sym c.requires.agrees ∙ not-false _ c.if-not-c.false) (sym c.fault_of.ensures ∙ c.in-Twice.is))

pub returns-in-Missing : goal.returns-in-Missing
returns-in-Missing c = rw c.not-in-Missing.ensures (answer_7 _ _ _ (sym c.requires.agrees ∙ not-false _ c.if-not-c.false) (sym c.fault_of.ensures ∙ c.in-Missing.is))

pub returns-else-room-total : goal.returns-else-room-total
returns-else-room-total c = let e = sym c.requires.totals ∙ c.if-total-contents.false ∙ c.contents.ensures in
    record {
      says = answer_0 _ _ _ (sym c.requires.agrees ∙ not-false _ c.if-not-c.false) (sym c.fault_of.ensures ∙ c.in-Fine.is) e (omega (arith, c.requires.totals));
      size = answer_size c.args.room c.args.h _ (sym c.requires.agrees ∙ not-false _ c.if-not-c.false) (sym c.fault_of.ensures ∙ c.in-Fine.is) ∙ sym c.requires.totals;
      fits = omega arith;
      many = c.requires.lengths;
      order = c.requires.orders;
      once = (sym c.fault_of.ensures ∙ c.in-Fine.is);
    }
