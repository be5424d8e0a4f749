-- `c_vectors::lifted` is safe: no number of 32 bits is below -2^31. Assumes nothing.
use mathlib.Core.Path.{◌≡◌, sym, subst}
use Prim.Native.Nat.{◌+◌, ◌≤◌}
use native.Mathlib.Omega.{arith}
use lib.Dec.{T}
use lib.IntN.{ℤ, pos, nat_abs, ◌+ℤ◌}
use lib.Signed.{non_neg}
use mir.Syntax.{w64}
use mir.Val.{SFits}
use mir.Facts.{to_z-of_z}
use Rattle.laws.proofs.Integers.{up, dn, sum, one, abs, abs_sum, eq_z, pos_up, pos_dn, back, fit_in}
use Rattle.c_vectors.proofs.lifted.Goals as goal

-- z lifted by 2^31 is no negative number
positive : (z : ℤ) → nat_abs z ≤ 2147483648 → z +ℤ pos 2147483648 ≡ pos (nat_abs (z +ℤ pos 2147483648))
positive z h =
    let w = z +ℤ pos 2147483648 in
    let e = sum z (pos 2147483648) in
    let known : nat_abs w ≡ up w + dn w = abs w in
    eq_z _ _ (omega (arith, abs z, one w, pos_up 2147483648, pos_dn 2147483648, pos_up (nat_abs w), pos_dn (nat_abs w)))

small : (z : ℤ) → nat_abs z ≤ 2147483648 → nat_abs (z +ℤ pos 2147483648) ≤ 4294967296
small z h = omega (arith, abs_sum z (pos 2147483648))

pub overflow_add-w : goal.overflow_add-w
overflow_add-w c = let fits : SFits w64 (c.wide-w.result +ℤ pos 2147483648) = fit_in w64 tt (small c.wide-w.result c.wide-w.ensures.1) in
    rw (back w64 c.wide-w.result c.wide-w.type_inv) (fits)

pub overflow_cast-result : goal.overflow_cast-result
overflow_cast-result c = let fits : SFits w64 (c.wide-w.result +ℤ pos 2147483648) = fit_in w64 tt (small c.wide-w.result c.wide-w.ensures.1) in
    rw (back w64 c.wide-w.result c.wide-w.type_inv, to_z-of_z (fits)) (subst (λ (y : ℤ). T (non_neg y)) (sym (positive c.wide-w.result c.wide-w.ensures.1)) tt, record { fits = omega (arith, small c.wide-w.result c.wide-w.ensures.1) })
