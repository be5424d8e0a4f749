-- `numbers::twice_in` meets its contract.
use lib.Seq.{length-take-le}
use Rattle.numbers.proofs.Chosen.{window_twice, single_once, single_twice}
use Rattle.box_rules.specs.Numbers.{first_twice}
use mathlib.Core.Path.{sym, ap, ◌∙◌}
use native.Mathlib.Omega.{arith}
use borrow.Author.Rules.{rules}
use Rattle.numbers.proofs.twice_in.Goals as goal

-- `numbers::twice_in` meets its contract: a window of one number is counted, another is searched in hand.
pub returns-then-count_between-le1 : goal.returns-then-count_between-le1
returns-then-count_between-le1 c = single_once _ _ c.if-hi-lo.true (omega (arith, c.count_between.ensures, c.if-count_between-le1.true))

pub returns-then-hi-lo : goal.returns-then-hi-lo
returns-then-hi-lo c = single_twice _ _ c.if-hi-lo.true (omega (arith, c.count_between.ensures, c.if-count_between-le1.false))

pub gather-k-requires : goal.gather-k-requires
gather-k-requires c = c.requires.2 c.if-hi-lo.false

pub slice_bounds-least_twice-end-2 : goal.slice_bounds-least_twice-end-2
slice_bounds-least_twice-end-2 c = sym (length-take-le _ _ (search rules))

pub returns : goal.returns
returns c = window_twice _ _ _ _ (c.least_twice.ensures ∙ ap first_twice c.gather-k.ensures.0)
