-- `rounding::floor_div` meets its contract: by the sign, the quotient toward zero is the floor. Assumes nothing.
use mathlib.Core.Path.{◌≡◌, sym, ap, subst, ◌∙◌}
use mathlib.Core.Bool.{true, false}
use Prim.Native.Nat.{ℕ, ◌/◌}
use native.Mathlib.Nat.{div-le_self}
use native.Mathlib.Omega.{arith}
use lib.IntN.{ℤ, pos, negsuc, ◌-ℤ◌}
use lib.Signed.{mag, lt_z, shr_z, mag_shr}
use mir.Syntax.{w32, w64}
use mir.Val.{Fits, SFits, to_z, of_z}
use mir.Facts.{to_z-of_z, to_z_pos}
use mir.ValLaws.{sfits_le}
use Rattle.laws.proofs.Integers.{flip, floor_neg, floor_pos}
use Rattle.rounding.proofs.floor_div.Goals as goal

m-read : (m : ℕ) → Fits w32 m → to_z w64 m ≡ pos m
m-read m h = to_z_pos w64 (omega arith)

module _ (c : goal.Then-z-lt0) where
  z : ℤ
  z = c.args.z

  m : ℕ
  m = c.args.m

  neg : lt_z z (pos 0) ≡ true
  unfolding z
  neg = sym (ap (λ (y : ℤ). lt_z y (pos 0)) (to_z-of_z c.ranges.z)) ∙ c.if-z-lt0.true

  flipped : negsuc 0 -ℤ to_z w64 (of_z w64 z) ≡ pos (mag z)
  unfolding z
  flipped = rw (to_z-of_z c.ranges.z) (flip z neg)

  flip-fits : SFits w64 (pos (mag z))
  unfolding z
  flip-fits = record { sfits = c.ranges.z.sfits }

  quot_fits : SFits w64 (pos (mag z / m))
  quot_fits = sfits_le (div-le_self (mag z) m) flip-fits

  shr-fits : SFits w64 (shr_z z m)
  unfolding z
  shr-fits = sfits_le (mag_shr z m) c.ranges.z

pub overflow_sub-result : goal.overflow_sub-result
unfolding z
overflow_sub-result c = subst (SFits w64) (sym (flipped c)) (flip-fits c)

pub overflow_sub-result-then-z-lt0 : goal.overflow_sub-result-then-z-lt0
unfolding z m
overflow_sub-result-then-z-lt0 c = rw (flipped c, to_z-of_z (flip-fits c), m-read c.args.m c.ranges.m, to_z-of_z (quot_fits c), floor_neg (z c) (m c) (neg c)) (shr-fits c)

pub returns-then-z-lt0 : goal.returns-then-z-lt0
unfolding z m
returns-then-z-lt0 c = rw (flipped c, to_z-of_z (flip-fits c), m-read c.args.m c.ranges.m, to_z-of_z (quot_fits c), floor_neg (z c) (m c) (neg c)) (to_z-of_z (shr-fits c))

pub returns : goal.returns
returns c = let z-read : to_z w64 (of_z w64 c.args.z) ≡ c.args.z = to_z-of_z c.ranges.z in
    let not_neg : lt_z c.args.z (pos 0) ≡ false = sym (ap (λ (y : ℤ). lt_z y (pos 0)) (z-read)) ∙ c.if-z-lt0.false in
    rw (z-read, m-read c.args.m c.ranges.m, floor_pos c.args.z c.args.m (not_neg)) (to_z-of_z (sfits_le (mag_shr c.args.z c.args.m) c.ranges.z))
