-- Digits and bits as numbers. Assumes nothing.
use mathlib.Core.Path.{◌≡◌, refl, sym, ap}
use mathlib.Core.Bool.{Bool, true, false}
use Prim.Native.Nat.{ℕ, zero, suc, ◌*◌, ◌%◌, ◌<◌}
use native.Mathlib.Omega.{arith}
use lib.Bits.{bit_and, and_mask}
use lib.Dec.{eqb}
use lib.ListN.{length}
use borrow.Author.Tests.{eqb-true, eqb-false}
use Rattle.bit_rules.specs.Digits.{bin, odd, digits}

pub bin_odd : (n : ℕ) → bin (odd n) ≡ n % 2
bin_odd n = go (eqb (n % 2) 1) refl
  where
    go : (b : Bool) → odd n ≡ b → bin b ≡ n % 2
    go true e = sym (eqb-true (n % 2) 1 e)
    go false e = omega (arith, eqb-false (n % 2) 1 e)

pub digits_length : (n v : ℕ) → length (digits n v) ≡ n
unfolding digits
digits_length zero v = refl
digits_length (suc n) v = ap suc (digits_length n v)

pub bin_small : (b : Bool) → bin b < 2
bin_small true = omega arith
bin_small false = omega arith

-- a byte moved up by one, by mask and shift
pub moved_up : (byte : ℕ) → bit_and byte 127 * 2 % 256 ≡ byte % 128 * 2
moved_up byte = let e : bit_and byte 127 ≡ byte % 128 = and_mask byte 7 in omega arith
