-- `merge::tested` meets its contract: one law of the rules' order at each return. Assumes nothing.
use mathlib.Core.Path.{◌≡◌, refl, sym, ap, ◌∙◌}
use mathlib.Core.Bool.{true}
use native.Mathlib.Omega.{arith}
use lib.ListN.{length}
use Rattle.laws.specs.First.{first_fail}
use Rattle.merge.proofs.Testing.{tests_refused, tests_passed}
use Rattle.merge_rules.specs.Near.{top}
use Rattle.merge_rules.specs.Settings.{in_ranges, plain, srgb_allowed, lengths_right, entry_right}
use Rattle.settings.specs.Code.{Ranged}
use Rattle.settings.proofs.Laws.{ranged, passed, count_small}
use Rattle.merge_laws.proofs.Order.{no_range, not_plain, no_srgb, no_lengths, too_large, no_room, all_right}
use Rattle.merge.proofs.tested.Goals.{Else-not-in_ranges, Else-not-plain, Else-not-srgb_allowed, Else-not-lengths_right, After-first_large-large}
use Rattle.merge.proofs.tested.Goals as goal

-- what the code learns behind each test
passed-1 : (c : Else-not-in_ranges) → in_ranges c.args.s c.args.pixels ≡ true
passed-1 c = sym c.in_ranges.ensures ∙ c.if-not-in_ranges.false

in_range : (c : Else-not-in_ranges) → Ranged c.args.s c.args.pixels
in_range c = ranged _ _ (passed-1 c)

passed-2 : (c : Else-not-plain) → plain c.args.s ≡ true
passed-2 c = sym c.plain.ensures ∙ c.if-not-plain.false

passed-3 : (c : Else-not-srgb_allowed) → srgb_allowed c.args.s ≡ true
passed-3 c = sym c.srgb_allowed.ensures ∙ c.if-not-srgb_allowed.false

passed-4 : (c : Else-not-lengths_right) → lengths_right c.args.s c.args.pixels c.args.base.now c.args.residual.now c.args.table.now ≡ true
passed-4 c = sym c.lengths_right.ensures ∙ c.if-not-lengths_right.false

searched : (c : After-first_large-large) → first_fail (length c.args.table.now) (entry_right (top c.args.s.rb) c.args.table.now) ≡ c.first_large-large.result
searched c = ap (λ m. first_fail (length c.args.table.now) (entry_right m c.args.table.now)) (sym c.top_of.ensures.0) ∙ sym c.first_large-large.ensures

pub returns-then-not-in_ranges : goal.returns-then-not-in_ranges
returns-then-not-in_ranges c = tests_refused c.refuse.ensures (λ result l. no_range _ _ _ _ _ _ result (sym c.in_ranges.ensures ∙ c.if-not-in_ranges.true))

pub returns-then-not-plain : goal.returns-then-not-plain
returns-then-not-plain c = let here = goal.at.returns-then-not-plain c in
    tests_refused c.refuse-then-not-plain.ensures (λ result l. not_plain _ _ _ _ _ _ result (passed-1 here.Else-not-in_ranges) (sym c.plain.ensures ∙ c.if-not-plain.true))

pub returns-then-not-srgb_allowed : goal.returns-then-not-srgb_allowed
returns-then-not-srgb_allowed c = let here = goal.at.returns-then-not-srgb_allowed c in
    tests_refused c.refuse-then-not-srgb_allowed.ensures (λ result l. no_srgb _ _ _ _ _ _ result (passed-1 here.Else-not-in_ranges) (passed-2 here.Else-not-plain) (sym c.srgb_allowed.ensures ∙ c.if-not-srgb_allowed.true))

pub lengths_right-requires : goal.lengths_right-requires
lengths_right-requires c = let here = goal.at.lengths_right-requires c in
    in_range here.Else-not-in_ranges

pub returns-then-not-lengths_right : goal.returns-then-not-lengths_right
returns-then-not-lengths_right c = let here = goal.at.returns-then-not-lengths_right c in
    tests_refused c.refuse-then-not-lengths_right.ensures (λ result l. no_lengths _ _ _ _ _ _ result (passed-1 here.Else-not-in_ranges) (passed-2 here.Else-not-plain) (passed-3 here.Else-not-srgb_allowed) (sym c.lengths_right.ensures ∙ c.if-not-lengths_right.true))

pub top_of-requires : goal.top_of-requires
top_of-requires c = let here = goal.at.top_of-requires c in
    (in_range here.Else-not-in_ranges).rb_small

pub returns-in-Some : goal.returns-in-Some
returns-in-Some c = let here = goal.at.returns-in-Some c in
    tests_refused c.refuse-in-Some.ensures (λ result l. too_large _ _ _ _ _ _ result (passed-1 here.Else-not-in_ranges) (passed-2 here.Else-not-plain) (passed-3 here.Else-not-srgb_allowed) (passed-4 here.Else-not-lengths_right) _ (searched here.After-first_large-large ∙ c.in-Some.is))

pub overflow_mul-count : goal.overflow_mul-count
overflow_mul-count c = let here = goal.at.overflow_mul-count c in
    let r = in_range here.Else-not-in_ranges in
    let a = c.args in
    record { fits = omega (arith, count_small a.s.components a.pixels r.components_right r.pixels_few) }

pub returns-then-room-count : goal.returns-then-room-count
returns-then-room-count c = let here = goal.at.returns-then-room-count c in
    tests_refused c.refuse-then-room-count.ensures (λ result l. no_room _ _ _ _ _ _ result (passed-1 here.Else-not-in_ranges) (passed-2 here.Else-not-plain) (passed-3 here.Else-not-srgb_allowed) (passed-4 here.Else-not-lengths_right) (searched here.After-first_large-large ∙ c.in_default.is) l c.if-room-count.true)

pub returns : goal.returns
returns c = let here = goal.at.returns c in
    tests_passed refl (passed _ _ _ _ _ (in_range here.Else-not-in_ranges) (passed-3 here.Else-not-srgb_allowed) (passed-4 here.Else-not-lengths_right)) c.if-room-count.false (λ result l. all_right _ _ _ _ _ _ result (passed-1 here.Else-not-in_ranges) (passed-2 here.Else-not-plain) (passed-3 here.Else-not-srgb_allowed) (passed-4 here.Else-not-lengths_right) (searched here.After-first_large-large ∙ c.in_default.is) l c.if-room-count.false)
