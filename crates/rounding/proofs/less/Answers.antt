-- `rounding::less` meets its contract. Assumes nothing.
use mathlib.Core.Path.{refl}
use lib.IntN.{◌-ℤ◌}
use mir.Syntax.{w64}
use mir.Val.{SFits}
use mir.Facts.{to_z-of_z}
use Rattle.laws.proofs.Integers.{fit_in}
use Rattle.rounding.proofs.Laws.{less_small}
use Rattle.rounding.proofs.less.Goals as goal

pub overflow_sub-result : goal.overflow_sub-result
overflow_sub-result c = let fits : SFits w64 (c.args.x -ℤ c.args.centre) = fit_in w64 tt (less_small c.args.x c.args.centre c.requires.0 c.requires.1) in
    rw (to_z-of_z c.ranges.x, to_z-of_z c.ranges.centre) (fits)

pub returns : goal.returns
returns c = let fits : SFits w64 (c.args.x -ℤ c.args.centre) = fit_in w64 tt (less_small c.args.x c.args.centre c.requires.0 c.requires.1) in
    rw (to_z-of_z c.ranges.x, to_z-of_z c.ranges.centre, to_z-of_z (fits)) (refl, less_small c.args.x c.args.centre c.requires.0 c.requires.1)
