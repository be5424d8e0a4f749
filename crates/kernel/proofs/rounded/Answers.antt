-- `kernel::rounded` meets its contract: each step fits, by its magnitude. Assumes nothing.
use borrow.Author.Rules.{rules}
use lib.IntN.{◌+ℤ◌}
use lib.Signed.{shr_z}
use mir.Syntax.{w32, w64}
use mir.Val.{SFits}
use mir.Facts.{to_z-of_z}
use Rattle.laws.proofs.Integers.{back, fit_in, to64}
use Rattle.transform_rules.specs.Samples.{rounded}
use Rattle.kernel.proofs.Bounds.{added_small, floor_small, rounded_small}
use Rattle.kernel.proofs.rounded.Goals as goal

added : (c : goal.After-half) → SFits w64 (c.args.sum +ℤ c.half.result)
added c = rw c.half.ensures (fit_in w64 tt (added_small c.args.sum c.requires.0))

floored : (c : goal.After-half) → SFits w64 (shr_z (c.args.sum +ℤ c.half.result) 268435456)
floored c = rw c.half.ensures (fit_in w64 tt (floor_small c.args.sum c.requires.0))

centred : (c : goal.After-half) → SFits w32 (shr_z (c.args.sum +ℤ c.half.result) 268435456 +ℤ c.args.centre)
centred c = rw c.half.ensures (fit_in w32 tt (rounded_small c.args.sum c.requires.0 c.args.centre c.requires.1))

pub overflow_add-result : goal.overflow_add-result
overflow_add-result c = let f = added c in search rules

pub overflow_add-result-2 : goal.overflow_add-result-2
overflow_add-result-2 c = let f = added c in let g = floored c in let h = to64 (centred c) in search rules

pub overflow_cast-result : goal.overflow_cast-result
overflow_cast-result c = let f = added c in let g = floored c in let h = to64 (centred c) in let k = centred c in search rules

pub returns : goal.returns
unfolding rounded
returns c = rw (to_z-of_z c.ranges.sum, back w64 c.half.result c.half.type_inv, to_z-of_z (added c), to_z-of_z (floored c), to_z-of_z c.ranges.centre, to_z-of_z (to64 (centred c)), to_z-of_z (centred c), c.half.ensures)
