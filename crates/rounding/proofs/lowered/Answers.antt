-- `rounding::lowered` meets its contract. Assumes nothing.
use native.Mathlib.Omega.{arith}
use Rattle.rounding.proofs.lowered.Goals as goal

pub returns-then-top-n : goal.returns-then-top-n
returns-then-top-n c = omega arith

pub returns : goal.returns
returns c = omega arith
