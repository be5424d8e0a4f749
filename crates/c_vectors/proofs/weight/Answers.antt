-- `c_vectors::weight` is safe. Assumes nothing.
use native.Mathlib.Omega.{arith}
use lib.IntN.{pos, ◌-ℤ◌}
use mir.Syntax.{w16, w32}
use mir.Val.{SFits}
use Rattle.laws.proofs.Integers.{less_half}
use mir.Facts.{to_z-of_z, to_z_pos, sfits_widen}
use Rattle.c_vectors.proofs.weight.Goals as goal

pub overflow_sub-v : goal.overflow_sub-v
overflow_sub-v c = let fits : SFits w16 (pos c.pair_at-pair.result -ℤ pos 32768) = record { sfits = less_half 32768 c.pair_at-pair.result (omega arith) (omega arith) } in
    let wider : SFits w32 (pos c.pair_at-pair.result -ℤ pos 32768) = sfits_widen tt (fits) in
    rw (to_z_pos w32 {n = c.pair_at-pair.result} (omega arith)) (wider)

pub overflow_cast-result : goal.overflow_cast-result
overflow_cast-result c = let fits : SFits w16 (pos c.pair_at-pair.result -ℤ pos 32768) = record { sfits = less_half 32768 c.pair_at-pair.result (omega arith) (omega arith) } in
    let wider : SFits w32 (pos c.pair_at-pair.result -ℤ pos 32768) = sfits_widen tt (fits) in
    rw (to_z_pos w32 {n = c.pair_at-pair.result} (omega arith), to_z-of_z (wider)) (fits)
