-- `levels::search_outside` meets its contract: before index i every value is inside. Assumes nothing.
use mathlib.Core.Path.{◌≡◌, sym, ◌∙◌}
use lib.IntN.{pos}
use lib.ListN.{get_or}
use mir.Syntax.{w32}
use Rattle.laws.proofs.Integers.{back}
use Rattle.laws.proofs.First.{first_start, first_more, first_found, first_end}
use Rattle.levels.specs.Level.{first_outside, inside}
use borrow.Author.Rules.{rules}
use Rattle.levels.proofs.search_outside.Goals as goal

pub loop-i-init : goal.loop-i-init
loop-i-init c = first_start (inside c.args.part c.args.level c.args.values.now)

pub returns-then-not-in_level : goal.returns-then-not-in_level
unfolding first_outside inside
returns-then-not-in_level c = let tested : c.in_level.result ≡ inside c.args.part c.args.level c.args.values.now c.loop-i.i = c.in_level.ensures ∙ rw (c.is_dc.ensures, back w32 (get_or c.args.values.now c.loop-i.i (pos 0)) (search rules)) in
    sym (first_found _ _ _ c.loop-i-test.true c.loop-i.invariant (sym tested ∙ c.if-not-in_level.true))

pub loop-i-preserved : goal.loop-i-preserved
unfolding inside
loop-i-preserved c = let tested : c.in_level.result ≡ inside c.args.part c.args.level c.args.values.now c.loop-i.i = c.in_level.ensures ∙ rw (c.is_dc.ensures, back w32 (get_or c.args.values.now c.loop-i.i (pos 0)) (search rules)) in
    first_more _ _ c.loop-i.invariant (sym tested ∙ c.if-not-in_level.false)

pub returns : goal.returns
unfolding first_outside
returns c = sym (first_end _ _ _ c.loop-i.auto.i-end c.loop-i-test.false c.loop-i.invariant)
