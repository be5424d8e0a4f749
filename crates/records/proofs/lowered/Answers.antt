-- `records::lowered` meets its contract. Assumes nothing.
use native.Mathlib.Omega.{arith}
use lib.IntN.{pos, ◌-ℤ◌}
use mir.Syntax.{w32, w64}
use mir.Val.{SFits}
use mir.Facts.{to_z-of_z, to_z_pos}
use Rattle.laws.proofs.Integers.{to64, less_half}
use Rattle.records.proofs.lowered.Goals as goal

pub overflow_sub-v : goal.overflow_sub-v
overflow_sub-v c = let fits : SFits w32 (pos c.args.w -ℤ pos 2147483648) = record { sfits = less_half 2147483648 c.args.w (omega arith) (omega arith) } in
    rw (to_z_pos w64 {n = c.args.w} (omega arith)) (to64 (fits))

pub overflow_cast-result : goal.overflow_cast-result
overflow_cast-result c = let fits : SFits w32 (pos c.args.w -ℤ pos 2147483648) = record { sfits = less_half 2147483648 c.args.w (omega arith) (omega arith) } in
    rw (to_z_pos w64 {n = c.args.w} (omega arith), to_z-of_z (to64 (fits))) (fits)

pub returns : goal.returns
returns c = let fits : SFits w32 (pos c.args.w -ℤ pos 2147483648) = record { sfits = less_half 2147483648 c.args.w (omega arith) (omega arith) } in
    rw (to_z_pos w64 {n = c.args.w} (omega arith), to_z-of_z (to64 (fits)), to_z-of_z (fits))
