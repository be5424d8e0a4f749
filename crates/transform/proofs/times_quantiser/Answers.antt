-- `transform::times_quantiser` meets its contract: the product of any value and any quantiser fits, by their magnitudes. Assumes nothing.
use borrow.Author.Rules.{rules}
use mathlib.Core.Path.{◌≡◌, sym, ap, subst, ◌∙◌}
use native.Mathlib.Omega.{arith}
use lib.IntN.{ℤ, pos, ◌*ℤ◌}
use mir.Syntax.{w32, w64}
use mir.Val.{SFits, to_z, of_z}
use mir.Facts.{to_z-of_z, to_z_pos}
use Rattle.laws.proofs.Integers.{abs_prod_le, fit_in, fits_abs, to64, widened}
use Rattle.transform_rules.specs.Picture.{times_quantiser}
use Rattle.transform.proofs.times_quantiser.Goals as goal

module _ (c : goal.Start) where
  whole-fits : SFits w64 (c.args.value *ℤ pos c.args.quantiser)
  whole-fits = fit_in w64 tt (abs_prod_le c.args.value (pos c.args.quantiser) 2147483648 65535 (fits_abs w32 c.ranges.value) (omega arith))

  is : to_z w64 (of_z w64 (to_z w32 (of_z w32 c.args.value))) *ℤ to_z w64 c.args.quantiser ≡ c.args.value *ℤ pos c.args.quantiser
  is = rw (widened w32 w64 tt c.ranges.value, to_z_pos w64 {n = c.args.quantiser} (omega arith))

pub overflow_cast-result : goal.overflow_cast-result
overflow_cast-result c = search (rules, to64)

pub overflow_mul-result : goal.overflow_mul-result
overflow_mul-result c = subst (SFits w64) (sym (is c)) (whole-fits c)

pub returns : goal.returns
unfolding times_quantiser
returns c = ap (λ (z : ℤ). to_z w64 (of_z w64 z)) (is c) ∙ to_z-of_z (whole-fits c)
