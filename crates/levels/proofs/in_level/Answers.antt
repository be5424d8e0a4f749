-- `levels::in_level` meets its contract. Assumes nothing.
use mathlib.Core.Path.{◌≡◌, sym, ◌∙◌}
use Prim.Native.Nat.{◌+◌, ◌^◌}
use lib.IntN.{pos}
use lib.Signed.{le_z}
use mir.Syntax.{w32}
use mir.Val.{to_z, of_z}
use mir.Facts.{to_z-of_z}
use Rattle.laws.proofs.Integers.{back}
use Rattle.levels.proofs.Ranges.{too_high, dc_test, ac_test}
use Rattle.levels.proofs.in_level.Goals as goal

pub returns-then-above-value : goal.returns-then-above-value
returns-then-above-value c = let tested : le_z (to_z w32 (of_z w32 c.above.result)) (to_z w32 (of_z w32 c.args.value)) ≡ le_z (pos (2 ^ (11 + c.args.level))) c.args.value = rw (to_z-of_z c.ranges.value, back w32 c.above.result c.above.type_inv, c.above.ensures) in
    sym (too_high c.args.level c.args.value c.args.dc (sym (tested) ∙ c.if-above-value.true))

pub returns-then-dc : goal.returns-then-dc
returns-then-dc c = let tested : le_z (to_z w32 (of_z w32 c.above.result)) (to_z w32 (of_z w32 c.args.value)) ≡ le_z (pos (2 ^ (11 + c.args.level))) c.args.value = rw (to_z-of_z c.ranges.value, back w32 c.above.result c.above.type_inv, c.above.ensures) in
    rw (to_z-of_z c.ranges.value, back w32 c.lowest.result c.lowest.type_inv, c.lowest.ensures, c.if-dc.true)
    (dc_test c.args.level c.args.value (sym (tested) ∙ c.if-above-value.false))

pub returns : goal.returns
returns c = let tested : le_z (to_z w32 (of_z w32 c.above.result)) (to_z w32 (of_z w32 c.args.value)) ≡ le_z (pos (2 ^ (11 + c.args.level))) c.args.value = rw (to_z-of_z c.ranges.value, back w32 c.above.result c.above.type_inv, c.above.ensures) in
    rw (to_z-of_z c.ranges.value, back w32 c.lowest-2.result c.lowest-2.type_inv, c.lowest-2.ensures, c.if-dc.false)
    (ac_test c.args.level c.args.value (sym (tested) ∙ c.if-above-value.false))
