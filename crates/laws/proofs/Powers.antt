-- Powers of two as shifts make them. Assumes nothing.
use mathlib.Core.Path.{◌≡◌}
use Prim.Native.Nat.{ℕ, ◌*◌, ◌%◌, ◌^◌, ◌<◌}
use native.Mathlib.Nat.{mod-eq_of_lt}
use native.Mathlib.Omega.{arith}

-- a one moved up by k bits, where all of it fits
pub one_moved : (k m : ℕ) → 2 ^ k < m → 1 * 2 ^ k % m ≡ 2 ^ k
one_moved k m h = let e : 1 * 2 ^ k ≡ 2 ^ k = omega arith in rw e (mod-eq_of_lt h)
