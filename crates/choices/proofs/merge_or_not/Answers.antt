-- `choices::merge_or_not` meets its promise. Assumes nothing.
use mathlib.Core.Path.{refl}
use borrow.Author.Tests.{eq-eqb, ne_eqb}
use Rattle.merge_rules.specs.Call.{merge_call}
use Rattle.choices.proofs.merge_or_not.Goals as goal

pub returns-then-number-ne0 : goal.returns-then-number-ne0
unfolding merge_call
returns-then-number-ne0 c = rw (← c.setting_number-number.ensures, ne_eqb _ _ c.if-number-ne0.true)
    (record { answered = refl; held = (c.fill.ensures.after (λ y e. e)) })

pub returns : goal.returns
unfolding merge_call
returns c = rw (← c.setting_number-number.ensures, eq-eqb _ _ c.if-number-ne0.false) c.merge.ensures
