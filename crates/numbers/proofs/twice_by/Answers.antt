-- `numbers::twice_by` meets its contract: below `lo` no number stands twice.
use Rattle.numbers.proofs.Chosen.{windows_next, windows_found, windows_end}
use mathlib.Core.Path.{refl}
use native.Mathlib.Omega.{arith}
use borrow.Author.Rules.{rules}
use Rattle.numbers.proofs.twice_by.Goals as goal

pub loop-lo-init : goal.loop-lo-init
loop-lo-init c = (λ j l. absurd (omega arith), refl)

pub window_end-hi-requires : goal.window_end-hi-requires
window_end-hi-requires c = (c.loop-lo-test.true, c.past_all-top.ensures.upper_bound)

pub twice_in-requires : goal.twice_in-requires
twice_in-requires c = (c.window_end-hi.ensures.lower_bound.0, omega (arith, c.window_end-hi.ensures.lower_bound, c.past_all-top.ensures.upper_bound), c.window_end-hi.ensures.instance_bound)

pub returns-in-Some : goal.returns-in-Some
returns-in-Some c = windows_found _ _ _ c.loop-lo.invariant.0 c.twice_in.ensures c.in-Some.is

pub loop-lo-preserved : goal.loop-lo-preserved
loop-lo-preserved c = (windows_next _ _ _ c.loop-lo.invariant.0 c.twice_in.ensures c.in-None.is, search rules)

pub returns : goal.returns
returns c = windows_end _ _ _ c.loop-lo.invariant.0 c.loop-lo-test.false c.past_all-top.ensures.by_index
