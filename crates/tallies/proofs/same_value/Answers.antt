-- `tallies::same_value` meets its contract. Assumes nothing.
use mathlib.Core.Path.{◌≡◌, ◌∙◌}
use lib.Signed.{le_z}
use mir.Syntax.{w32}
use mir.Val.{to_z, of_z}
use mir.Facts.{to_z-of_z}
use Rattle.test_rules.specs.Wanted.{same_value}
use Rattle.tallies.proofs.same_value.Goals as goal

pub returns-then-a-b : goal.returns-then-a-b
unfolding same_value
returns-then-a-b c = let tested : le_z c.args.a c.args.b ≡ le_z (to_z w32 (of_z w32 c.args.a)) (to_z w32 (of_z w32 c.args.b)) = rw (to_z-of_z c.ranges.a, to_z-of_z c.ranges.b) in
    rw (to_z-of_z c.ranges.a, to_z-of_z c.ranges.b, tested ∙ c.if-a-b.true)

pub returns-else-a-b : goal.returns-else-a-b
unfolding same_value
returns-else-a-b c = let tested : le_z c.args.a c.args.b ≡ le_z (to_z w32 (of_z w32 c.args.a)) (to_z w32 (of_z w32 c.args.b)) = rw (to_z-of_z c.ranges.a, to_z-of_z c.ranges.b) in
    rw (tested ∙ c.if-a-b.false) c.if-a-b.false
