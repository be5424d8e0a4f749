-- `transform::try_inverse_transform` meets its contract, refusal by refusal. Assumes nothing.
use mathlib.Core.Path.{sym, ap, ◌∙◌}
use mathlib.Core.List.{◌++◌}
use Prim.Native.Nat.{ℕ}
use lib.ListN.{drop}
use Rattle.std.specs.Prelude.{Ok}
use Rattle.answers.proofs.Laws.{tried_refused, tried_given}
use Rattle.transform_rules.specs.Picture.{picture}
use Rattle.transform_rules.proofs.Lengths.{picture_length}
use Rattle.transform.proofs.Refusals.{refinement_over, blocks_over, values_miscounted, quantisers_miscounted, quantiser_bad, value_outside, too_short, all_given, in_range}
use Rattle.transform.proofs.try_inverse_transform.Goals as goal

pub returns-then-refinement-gt4 : goal.returns-then-refinement-gt4
returns-then-refinement-gt4 c = tried_refused c.refuse.ensures (refinement_over _ _ _ _ _ c.if-refinement-gt4.true)

pub returns-then-blocks-gt1024 : goal.returns-then-blocks-gt1024
returns-then-blocks-gt1024 c = tried_refused c.refuse-then-blocks-gt1024.ensures (blocks_over _ _ _ _ _ c.if-refinement-gt4.false c.if-blocks-gt1024.true)

pub returns-then-values-count : goal.returns-then-values-count
returns-then-values-count c = tried_refused c.refuse-then-values-count.ensures (values_miscounted _ _ _ _ _ c.if-refinement-gt4.false c.if-blocks-gt1024.false c.if-values-count.true)

pub returns-then-quantisers-ne64 : goal.returns-then-quantisers-ne64
returns-then-quantisers-ne64 c = tried_refused c.refuse-then-quantisers-ne64.ensures (quantisers_miscounted _ _ _ _ _ c.if-refinement-gt4.false c.if-blocks-gt1024.false c.if-values-count.false c.if-quantisers-ne64.true)

pub returns-in-Some : goal.returns-in-Some
returns-in-Some c = tried_refused c.refuse-in-Some.ensures
    (quantiser_bad _ _ _ _ _ c.if-refinement-gt4.false c.if-blocks-gt1024.false c.if-values-count.false c.if-quantisers-ne64.false
    (sym c.first_bad_quantiser-bad.ensures ∙ c.in-Some.is))

pub returns-in-Some-outside : goal.returns-in-Some-outside
returns-in-Some-outside c = tried_refused c.refuse-in-Some-outside.ensures
    (value_outside _ _ _ _ _ c.if-refinement-gt4.false c.if-blocks-gt1024.false c.if-values-count.false c.if-quantisers-ne64.false
    (sym c.first_bad_quantiser-bad.ensures ∙ c.in_default.is)
    (sym c.first_outside-outside.ensures ∙ c.in-Some-outside.is))

pub returns-then-destination-count : goal.returns-then-destination-count
returns-then-destination-count c = tried_refused c.refuse-then-destination-count.ensures
    (too_short _ _ _ _ _ c.if-refinement-gt4.false c.if-blocks-gt1024.false c.if-values-count.false c.if-quantisers-ne64.false
    (sym c.first_bad_quantiser-bad.ensures ∙ c.in_default.is)
    (sym c.first_outside-outside.ensures ∙ c.in_default-outside.is)
    c.if-destination-count.true)

pub transform_picture-requires : goal.transform_picture-requires
transform_picture-requires c = record {
  in_range = (
    in_range c.args.values.now c.args.quantisers.now c.args.refinement c.if-refinement-gt4.false c.if-quantisers-ne64.false
        (sym c.first_bad_quantiser-bad.ensures ∙ c.in_default.is)
        (sym c.first_outside-outside.ensures ∙ c.in_default-outside.is),
    c.if-refinement-gt4.false,
  );
  values_len = (c.if-values-count.false, c.if-destination-count.false);
}

pub returns : goal.returns
returns c = let ys = picture c.args.refinement c.args.blocks c.args.values.now c.args.quantisers.now in
    let long = picture_length c.args.refinement c.args.blocks c.args.values.now c.args.quantisers.now in
    tried_given {ys = ys} (ap Ok (sym long))
    (all_given _ _ _ _ _ c.if-refinement-gt4.false c.if-blocks-gt1024.false c.if-values-count.false c.if-quantisers-ne64.false
    (sym c.first_bad_quantiser-bad.ensures ∙ c.in_default.is)
    (sym c.first_outside-outside.ensures ∙ c.in_default-outside.is)
    c.if-destination-count.false)
    (c.transform_picture.ensures ∙ ap (λ (n : ℕ). ys ++ drop n c.args.destination.now) (sym long))
