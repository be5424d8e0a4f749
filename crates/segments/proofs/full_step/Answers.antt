-- `segments::full_step` meets its contract: each return goes by the tests that led there.
use Rattle.box_rules.specs.Walk.{marked_at, step_at}
use borrow.Author.Tests.{le-leb, lt-leb, eq-eqb, ne_eqb}
use Rattle.segments.proofs.full_step.Goals as goal

pub returns-then-m-at : goal.returns-then-m-at
unfolding step_at marked_at
returns-then-m-at c = simp (← c.past_ones-m.ensures, le-leb _ _ c.if-m-at.true) c.broken.ensures

pub returns-then-file-m : goal.returns-then-file-m
unfolding step_at marked_at
returns-then-file-m c = simp (← c.past_ones-m.ensures, lt-leb _ _ c.if-m-at.false, le-leb _ _ c.if-file-m.true) c.broken-then-file-m.ensures

pub returns-then-b : goal.returns-then-b
unfolding step_at marked_at
returns-then-b c = simp (← c.past_ones-m.ensures, lt-leb _ _ c.if-m-at.false, lt-leb _ _ c.if-file-m.false, eq-eqb _ _ c.if-b.true)

pub returns-then-barred : goal.returns-then-barred
unfolding step_at marked_at
returns-then-barred c = simp (← c.past_ones-m.ensures, lt-leb _ _ c.if-m-at.false, lt-leb _ _ c.if-file-m.false, ne_eqb _ _ c.if-b.false, ← c.barred.ensures, c.if-barred.true) c.broken-then-barred.ensures

pub returns : goal.returns
unfolding step_at marked_at
returns c = simp (← c.past_ones-m.ensures, lt-leb _ _ c.if-m-at.false, lt-leb _ _ c.if-file-m.false, ne_eqb _ _ c.if-b.false, ← c.barred.ensures, c.if-barred.false) c.sized_at.ensures
