-- `previews::fold` meets its contract. Assumes nothing.
use native.Mathlib.Omega.{arith}
use Rattle.previews.specs.Code.{fold}
use Rattle.previews.proofs.fold.Goals as goal

pub returns-then-i-lt4 : goal.returns-then-i-lt4
unfolding fold
returns-then-i-lt4 c = omega arith

pub returns : goal.returns
unfolding fold
returns c = omega arith
