-- `windows::first_gone` meets its contract: no place passed was 0.
use Rattle.laws.proofs.First.{first_start, first_more, first_found, first_end}
use lib.ListN.{get_or}
use borrow.Author.Tests.{lt-ltb}
use mathlib.Core.Path.{sym}
use native.Mathlib.Omega.{arith}
use Rattle.windows.proofs.first_gone.Goals as goal

pub loop-i-init : goal.loop-i-init
loop-i-init c = first_start _

pub returns-then-places-i-eq0 : goal.returns-then-places-i-eq0
returns-then-places-i-eq0 c = sym (first_found _ _ _ c.loop-i-test.true c.loop-i.invariant (rw c.if-places-i-eq0.true))

pub loop-i-preserved : goal.loop-i-preserved
loop-i-preserved c = first_more _ _ c.loop-i.invariant (lt-ltb 0 (get_or c.args.places.now c.loop-i.i 0) (omega (arith, c.if-places-i-eq0.false)))

pub returns : goal.returns
returns c = sym (first_end _ _ _ c.loop-i.auto.i-end c.loop-i-test.false c.loop-i.invariant)
