-- `rounding::whole` meets its contract: the lifted number is positive, so that its quotient is the floor. Assumes nothing.
use mathlib.Core.Path.{◌≡◌, refl, sym, subst}
use Prim.Native.Nat.{◌/◌, ◌≤◌}
use native.Mathlib.Omega.{arith}
use lib.Dec.{T}
use lib.IntN.{ℤ, pos, nat_abs, ◌+ℤ◌, ◌-ℤ◌}
use lib.Signed.{non_neg}
use mir.Syntax.{w64}
use mir.Val.{SFits, to_z, of_z}
use mir.Facts.{to_z-of_z}
use Rattle.laws.proofs.Integers.{fit_in}
use Rattle.merge_rules.specs.Near.{nearest}
use Rattle.rounding.proofs.Laws.{lift, Lifted, lifted, whole_is, nearest_small}
use Rattle.rounding.proofs.whole.Goals as goal

module _ (c : goal.Start) where
  t-read : to_z w64 (of_z w64 c.args.t) ≡ c.args.t
  t-read = to_z-of_z c.ranges.t

  up-there : Lifted c.args.t
  up-there = lifted c.args.t c.requires

  sum_fits : SFits w64 (c.args.t +ℤ pos lift)
  sum_fits = fit_in w64 tt up-there.small

  quotient-small : nat_abs (c.args.t +ℤ pos lift) / 1000000 ≤ 8000000000001
  quotient-small = let h : nat_abs (c.args.t +ℤ pos lift) ≤ 8000000000000500000 = up-there.small in omega arith

  quotient_fits : SFits w64 (pos (nat_abs (c.args.t +ℤ pos lift) / 1000000))
  quotient_fits = fit_in w64 tt quotient-small

  quotient-read : to_z w64 (nat_abs (c.args.t +ℤ pos lift) / 1000000) ≡ pos (nat_abs (c.args.t +ℤ pos lift) / 1000000)
  quotient-read = to_z-of_z quotient_fits

  is-nearest : pos (nat_abs (c.args.t +ℤ pos lift) / 1000000) -ℤ pos 4000000000000 ≡ nearest c.args.t 1000000
  is-nearest = whole_is c.args.t _ up-there.same

  nearest-fits : SFits w64 (nearest c.args.t 1000000)
  nearest-fits = fit_in w64 {n = 4000000000000000001} tt (let h = nearest_small c.args.t 1000000 (omega arith) in omega (arith, c.requires))

pub overflow_add-lifted : goal.overflow_add-lifted
overflow_add-lifted c = rw (t-read c) (sum_fits c)

pub overflow_cast-lifted : goal.overflow_cast-lifted
overflow_cast-lifted c = rw (t-read c, to_z-of_z (sum_fits c)) (subst (λ (z : ℤ). T (non_neg z)) (sym (up-there c).same) tt, record { fits = omega (arith, (up-there c).small) })

pub overflow_cast-quotient : goal.overflow_cast-quotient
overflow_cast-quotient c = rw (t-read c, to_z-of_z (sum_fits c)) (quotient_fits c)

pub overflow_sub-result : goal.overflow_sub-result
overflow_sub-result c = rw (t-read c, to_z-of_z (sum_fits c), quotient-read c, is-nearest c) (nearest-fits c)

pub returns : goal.returns
returns c = rw (t-read c, to_z-of_z (sum_fits c), quotient-read c, is-nearest c, to_z-of_z (nearest-fits c)) (refl, nearest_small c.args.t 1000000 (omega arith))
