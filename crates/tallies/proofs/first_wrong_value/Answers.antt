-- `tallies::first_wrong_value` meets its contract: before index i every value is the wanted one. Assumes nothing.
use mathlib.Core.Path.{◌≡◌, sym, ◌∙◌}
use lib.IntN.{pos}
use lib.ListN.{get_or}
use mir.Syntax.{w32}
use Rattle.laws.proofs.Integers.{back}
use Rattle.laws.proofs.First.{first_start, first_more, first_found, first_end}
use Rattle.test_rules.specs.Wanted.{is_wanted, same_value}
use native.Mathlib.Omega.{arith}
use Rattle.tallies.proofs.first_wrong_value.Goals as goal

pub loop-i-init : goal.loop-i-init
loop-i-init c = first_start _

pub returns-then-not-same_value : goal.returns-then-not-same_value
unfolding is_wanted
returns-then-not-same_value c = let tested : c.same_value.result ≡ is_wanted same_value (pos 0) (pos 7) c.args.output.now c.args.expected.now c.args.number c.loop-i.i = c.same_value.ensures ∙ rw (back w32 (get_or c.args.output.now c.loop-i.i (pos 0)) c.same_value-arg-1.given, back w32 c.wanted_value-want.result c.wanted_value-want.type_inv, c.wanted_value-want.ensures) in
    sym (first_found _ _ _ c.loop-i-test.true c.loop-i.invariant (sym (tested) ∙ c.if-not-same_value.true))

pub loop-i-preserved : goal.loop-i-preserved
unfolding is_wanted
loop-i-preserved c = let tested : c.same_value.result ≡ is_wanted same_value (pos 0) (pos 7) c.args.output.now c.args.expected.now c.args.number c.loop-i.i = c.same_value.ensures ∙ rw (back w32 (get_or c.args.output.now c.loop-i.i (pos 0)) c.same_value-arg-1.given, back w32 c.wanted_value-want.result c.wanted_value-want.type_inv, c.wanted_value-want.ensures) in
    first_more _ _ c.loop-i.invariant (sym (tested) ∙ c.if-not-same_value.false)

pub returns : goal.returns
returns c = sym (first_end _ _ _ (omega arith) (omega arith) c.loop-i.invariant)
