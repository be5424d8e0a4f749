-- `windows::missing_by` meets its contract: none of the numbers passed is missing.
use Rattle.box_rules.proofs.Counts.{missing_done}
use Rattle.windows.proofs.Places.{window_missing, window_index, window_passed}
use mathlib.Core.Path.{◌≡◌, refl, sym, ◌∙◌}
use Prim.Native.Nat.{◌+◌, ◌-◌}
use native.Mathlib.Omega.{arith}
use borrow.Author.Rules.{rules}
use Rattle.windows.proofs.missing_by.Goals as goal

pub loop-passed-init : goal.loop-passed-init
loop-passed-init c = let e : c.args.n - 0 ≡ c.args.n = omega arith in (rw e, omega arith, refl)

pub overflow_add-result-in-Some : goal.overflow_add-result-in-Some
overflow_add-result-in-Some c = let h = window_index c.locate.ensures _ (c.args.n - c.loop-passed.passed) (omega (arith, c.lesser-k.ensures)) (omega (arith, c.lesser-k.ensures)) c.first_gone.ensures c.in-Some.is in omega (arith, c.lesser-k.ensures)

pub returns-in-Some : goal.returns-in-Some
returns-in-Some c = sym (window_missing c.locate.ensures _ (c.args.n - c.loop-passed.passed) (omega (arith, c.lesser-k.ensures)) (omega (arith, c.lesser-k.ensures)) c.first_gone.ensures c.in-Some.is) ∙ c.loop-passed.invariant.0

pub overflow_add-passed : goal.overflow_add-passed
overflow_add-passed c = omega (arith, c.lesser-k.ensures)

pub loop-passed-smaller : goal.loop-passed-smaller
loop-passed-smaller c = omega (arith, c.lesser-k.ensures)

pub loop-passed-preserved : goal.loop-passed-preserved
loop-passed-preserved c = let w = window_passed c.locate.ensures c.lesser-k.result (c.args.n - c.loop-passed.passed) (omega (arith, c.lesser-k.ensures)) (omega (arith, c.lesser-k.ensures)) c.first_gone.ensures c.in-None.is in
    let e : c.args.n - (c.loop-passed.passed + c.lesser-k.result) ≡ c.args.n - c.loop-passed.passed - c.lesser-k.result = omega arith in
    (rw e (sym w ∙ c.loop-passed.invariant.0), omega (arith, c.lesser-k.ensures), search rules)

pub returns : goal.returns
returns c = sym (missing_done _ _ _ (omega arith)) ∙ c.loop-passed.invariant.0
