-- `rounding::wide_count` meets its contract. Assumes nothing.
use native.Mathlib.Omega.{arith}
use mir.Syntax.{w64}
use mir.Facts.{to_z_pos}
use Rattle.rounding.proofs.wide_count.Goals as goal

pub returns : goal.returns
returns c = to_z_pos w64 (omega arith)
