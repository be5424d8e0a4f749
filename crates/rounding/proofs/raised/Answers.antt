-- `rounding::raised` meets its contract: below 0, and from 0 on. Assumes nothing.
use native.Mathlib.Omega.{arith}
use mir.Syntax.{w64}
use mir.Facts.{to_z-of_z}
use Rattle.laws.proofs.Integers.{fits_abs}
use Rattle.rounding.proofs.Laws.{clip_low, clip_raised, Raised}
use Rattle.rounding.proofs.raised.Goals as goal

pub returns-then-v-lt0 : goal.returns-then-v-lt0
returns-then-v-lt0 c = clip_low c.args.v (rw (to_z-of_z c.ranges.v) at c.if-v-lt0.true)

pub overflow_cast-result : goal.overflow_cast-result
overflow_cast-result c = let up-from-0 : Raised c.args.v = clip_raised c.args.v (rw (to_z-of_z c.ranges.v) at c.if-v-lt0.false) in
    rw (to_z-of_z c.ranges.v) ((up-from-0).positive, record { fits = omega (arith, fits_abs w64 c.ranges.v) })

pub returns : goal.returns
returns c = let up-from-0 : Raised c.args.v = clip_raised c.args.v (rw (to_z-of_z c.ranges.v) at c.if-v-lt0.false) in
    rw (to_z-of_z c.ranges.v) (up-from-0).same
