-- `rounding::centre_of` meets its contract. Assumes nothing.
use mathlib.Core.Path.{◌≡◌, refl, ap, ◌∙◌}
use Prim.Native.Nat.{◌+◌, ◌^◌}
use lib.IntN.{pos}
use mir.Syntax.{w64}
use mir.Val.{to_z, of_z}
use Rattle.laws.proofs.Integers.{back}
use Rattle.rounding.proofs.Laws.{centre_below}
use Rattle.rounding.proofs.centre_of.Goals as goal

pub returns : goal.returns
returns c = let is-centre : to_z w64 (of_z w64 c.wide_count.result) ≡ pos (2 ^ (7 + c.args.r)) = back w64 c.wide_count.result c.wide_count.type_inv ∙ c.wide_count.ensures ∙ ap pos c.power.ensures in
    rw (is-centre) (refl, centre_below c.args.r c.requires)
