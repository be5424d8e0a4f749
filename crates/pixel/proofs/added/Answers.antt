-- `pixel::added` meets its contract: the sum and the difference fit. Assumes nothing.
use mathlib.Core.Path.{◌≡◌, ap, ◌∙◌}
use mir.Syntax.{w64}
use mir.Facts.{to_z-of_z}
use Rattle.laws.proofs.Integers.{back, fit_in}
use mir.Val.{SFits, to_z, of_z}
use Prim.Native.Nat.{◌+◌, ◌^◌}
use lib.IntN.{pos, ◌+ℤ◌, ◌-ℤ◌}
use Rattle.merge_rules.specs.Near.{clip}
use Rattle.merge_rules.specs.Steps.{added}
use Rattle.pixel.proofs.Laws.{sum_below, difference_below}
use Rattle.pixel.proofs.added.Goals as goal

module _ (c : goal.After-centre_of-centre) where
  sum_fits : SFits w64 (c.args.b +ℤ c.args.r)
  sum_fits = fit_in w64 tt (sum_below c.args.b c.args.r c.requires.1.0 c.requires.1.1)

  difference-fits : SFits w64 (c.args.b +ℤ c.args.r -ℤ c.centre_of-centre.result)
  difference-fits =
      fit_in w64 tt (difference_below (c.args.b +ℤ c.args.r) c.centre_of-centre.result (sum_below c.args.b c.args.r c.requires.1.0 c.requires.1.1) c.centre_of-centre.ensures.1)

  -- what `clip` is given, read back
  given : to_z w64 (of_z w64 (to_z w64 (of_z w64 (to_z w64 (of_z w64 c.args.b) +ℤ to_z w64 (of_z w64 c.args.r))) -ℤ to_z w64 (of_z w64 c.centre_of-centre.result))) ≡ c.args.b +ℤ c.args.r -ℤ pos (2 ^ (7 + c.args.rb))
  given =
      rw (to_z-of_z c.ranges.b, to_z-of_z c.ranges.r, to_z-of_z sum_fits, back w64 c.centre_of-centre.result c.centre_of-centre.type_inv, to_z-of_z difference-fits)
      (ap (λ z. c.args.b +ℤ c.args.r -ℤ z) c.centre_of-centre.ensures.0)

pub overflow_add-b : goal.overflow_add-b
overflow_add-b c = rw (to_z-of_z c.ranges.b, to_z-of_z c.ranges.r) (sum_fits c)

pub overflow_sub-b : goal.overflow_sub-b
overflow_sub-b c = rw (to_z-of_z c.ranges.b, to_z-of_z c.ranges.r, to_z-of_z (sum_fits c), back w64 c.centre_of-centre.result c.centre_of-centre.type_inv) (difference-fits c)

pub returns : goal.returns
unfolding added
returns c =
    c.clip.ensures ∙ ap (λ z. clip z c.top_of.result) (given c.before.before) ∙ ap (clip (c.args.b +ℤ c.args.r -ℤ pos (2 ^ (7 + c.args.rb)))) c.top_of.ensures.0
