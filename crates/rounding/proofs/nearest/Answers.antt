-- `rounding::nearest` meets its contract: half of m is added, which fits, and the quotient taken downward. Assumes nothing.
use mathlib.Core.Path.{◌≡◌, refl, sym, ◌∙◌}
use Prim.Native.Nat.{◌/◌}
use native.Mathlib.Omega.{arith}
use lib.IntN.{pos, ◌+ℤ◌}
use mir.Syntax.{w64}
use mir.Val.{SFits, to_z, of_z}
use mir.Facts.{to_z-of_z, to_z_pos}
use Rattle.laws.proofs.Integers.{fit, abs_sum, back}
use Rattle.merge_rules.specs.Near.{nearest}
use Rattle.rounding.proofs.Laws.{nearest_floor, nearest_small}
use Rattle.rounding.proofs.nearest.Goals as goal

pub overflow_add-t : goal.overflow_add-t
overflow_add-t c = let half-read : to_z w64 (c.args.m / 2) ≡ pos (c.args.m / 2) = to_z_pos w64 (omega arith) in
    let half-added : SFits w64 (c.args.t +ℤ pos (c.args.m / 2)) = fit w64 (omega (arith, abs_sum c.args.t (pos (c.args.m / 2)))) in
    rw (to_z-of_z c.ranges.t, half-read) (half-added)

pub returns : goal.returns
returns c = let half-read : to_z w64 (c.args.m / 2) ≡ pos (c.args.m / 2) = to_z_pos w64 (omega arith) in
    let half-added : SFits w64 (c.args.t +ℤ pos (c.args.m / 2)) = fit w64 (omega (arith, abs_sum c.args.t (pos (c.args.m / 2)))) in
    let is-nearest : to_z w64 (of_z w64 c.floor_div.result) ≡ nearest c.args.t c.args.m = back w64 c.floor_div.result c.floor_div.type_inv ∙ c.floor_div.ensures ∙ rw (to_z-of_z c.ranges.t, half-read, to_z-of_z (half-added)) (sym (nearest_floor c.args.t c.args.m c.requires.1)) in
    rw (is-nearest) (refl, nearest_small c.args.t c.args.m c.requires.1)
