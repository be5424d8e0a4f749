-- `previews::owed_by` meets its contract: each step fits, by the size of the product. Assumes nothing.
use borrow.Author.Rules.{rules}
use mathlib.Core.Path.{refl}
use Prim.Native.Nat.{◌-◌, ◌*◌, ◌≤◌}
use native.Mathlib.Nat.{mul-le-mul}
use native.Mathlib.Omega.{arith}
use Rattle.laws.specs.Apart.{apart_rounded}
use Rattle.previews.proofs.owed_by.Goals as goal

pub overflow_mul-error : goal.overflow_mul-error
overflow_mul-error c = let product_small : (c.args.d - 1) * c.args.weight ≤ 15 * 1095216660480 = let h : c.args.d - 1 ≤ 15 = omega (arith, c.requires.1.0) in mul-le-mul h c.requires.1.1 in
    let h = product_small in search rules

pub overflow_mul-error-2 : goal.overflow_mul-error-2
overflow_mul-error-2 c = let product_small : (c.args.d - 1) * c.args.weight ≤ 15 * 1095216660480 = let h : c.args.d - 1 ≤ 15 = omega (arith, c.requires.1.0) in mul-le-mul h c.requires.1.1 in
    let h = product_small in search rules

pub overflow_add-result : goal.overflow_add-result
overflow_add-result c = let product_small : (c.args.d - 1) * c.args.weight ≤ 15 * 1095216660480 = let h : c.args.d - 1 ≤ 15 = omega (arith, c.requires.1.0) in mul-le-mul h c.requires.1.1 in
    let h = product_small in search rules

pub overflow_cast-result : goal.overflow_cast-result
overflow_cast-result c = let product_small : (c.args.d - 1) * c.args.weight ≤ 15 * 1095216660480 = let h : c.args.d - 1 ≤ 15 = omega (arith, c.requires.1.0) in mul-le-mul h c.requires.1.1 in
    let h = product_small in search rules

pub returns : goal.returns
unfolding apart_rounded
returns c = refl
