-- `previews::try_preview_owes` meets its contract, refusal by refusal. Assumes nothing.
use mathlib.Core.Path.{sym, ap, ◌∙◌}
use mathlib.Core.List.{◌++◌}
use Prim.Native.Nat.{ℕ}
use lib.ListN.{drop}
use Rattle.std.specs.Prelude.{Ok}
use Rattle.answers.proofs.Laws.{tried_refused, tried_given}
use Rattle.preview_rules.specs.Owed.{owed_block}
use Rattle.preview_rules.proofs.Lengths.{block_long}
use Rattle.previews.proofs.Refusals.{left_over, miscounted, quantiser_bad, too_short, all_given, quantised}
use Rattle.previews.proofs.try_preview_owes.Goals as goal

pub returns-then-left-gt4 : goal.returns-then-left-gt4
returns-then-left-gt4 c = tried_refused c.refuse.ensures (left_over _ _ _ c.if-left-gt4.true)

pub returns-then-quantisers-ne64 : goal.returns-then-quantisers-ne64
returns-then-quantisers-ne64 c = tried_refused c.refuse-then-quantisers-ne64.ensures (miscounted _ _ _ c.if-left-gt4.false c.if-quantisers-ne64.true)

pub returns-in-Some : goal.returns-in-Some
returns-in-Some c = tried_refused c.refuse-in-Some.ensures
    (quantiser_bad _ _ _ c.if-left-gt4.false c.if-quantisers-ne64.false (sym c.first_bad_quantiser-bad.ensures ∙ c.in-Some.is))

pub returns-then-destination-lt64 : goal.returns-then-destination-lt64
returns-then-destination-lt64 c = tried_refused c.refuse-then-destination-lt64.ensures
    (too_short _ _ _ c.if-left-gt4.false c.if-quantisers-ne64.false (sym c.first_bad_quantiser-bad.ensures ∙ c.in_default.is) c.if-destination-lt64.true)

pub write_block-requires : goal.write_block-requires
write_block-requires c = (c.if-left-gt4.false, (quantised c.args.left c.args.quantisers.now 0 c.if-left-gt4.false c.if-quantisers-ne64.false (sym c.first_bad_quantiser-bad.ensures ∙ c.in_default.is), c.if-destination-lt64.false))

pub returns : goal.returns
returns c = let ys = owed_block c.args.left c.args.quantisers.now in
    let long = block_long c.args.left c.args.quantisers.now in
    tried_given {ys = ys} (ap Ok (sym long))
    (all_given _ _ _ c.if-left-gt4.false c.if-quantisers-ne64.false (sym c.first_bad_quantiser-bad.ensures ∙ c.in_default.is) c.if-destination-lt64.false)
    (c.write_block.ensures ∙ ap (λ (n : ℕ). ys ++ drop n c.args.destination.now) (sym long))
