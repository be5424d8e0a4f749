-- `pixel::scaled` meets its contract: sixteenths, rounded. Assumes nothing.
use mathlib.Core.Path.{◌≡◌, ap, ◌∙◌}
use native.Mathlib.Omega.{arith}
use mir.Syntax.{w64}
use mir.Facts.{to_z-of_z}
use Rattle.laws.proofs.Integers.{back, fit_in}
use mir.Val.{SFits, to_z, of_z}
use Prim.Native.Nat.{◌+◌, ◌-◌, ◌^◌, ◌≤◌}
use lib.IntN.{pos, nat_abs, ◌*ℤ◌}
use lib.Signed.{nat_abs-le}
use Rattle.merge_rules.specs.Near.{nearest}
use Rattle.pixel.proofs.Laws.{scaled_sixteenths, sixteenths_below, scaled_below}
use Rattle.pixel.proofs.scaled.Goals as goal

module _ (c : goal.After-wide) where
  factor-read : to_z w64 (of_z w64 c.wide_count.result) ≡ pos (2 ^ (c.args.rb + 4 - c.args.rr))
  factor-read = back w64 c.wide_count.result c.wide_count.type_inv ∙ c.wide_count.ensures ∙ ap pos c.power-factor.ensures

  x-read : to_z w64 (of_z w64 c.wide.result) ≡ c.args.x
  x-read = back w64 c.wide.result c.wide.type_inv ∙ c.wide.ensures.0 ∙ to_z-of_z c.ranges.x

  x-small : nat_abs c.args.x ≤ 2147483648
  x-small = omega (arith, nat_abs-le c.args.x c.ranges.x.sfits)

  product-fits : SFits w64 (pos (2 ^ (c.args.rb + 4 - c.args.rr)) *ℤ c.args.x)
  product-fits = fit_in w64 tt (sixteenths_below c.args.rb c.args.rr c.args.x c.requires.1 c.requires.0 x-small)

  -- what `nearest` is given, read back
  given : to_z w64 (of_z w64 (to_z w64 (of_z w64 c.wide_count.result) *ℤ to_z w64 (of_z w64 c.wide.result))) ≡ pos (2 ^ (c.args.rb + 4 - c.args.rr)) *ℤ c.args.x
  given = rw (factor-read, x-read, to_z-of_z product-fits)

pub overflow_mul-sixteenths : goal.overflow_mul-sixteenths
overflow_mul-sixteenths c = rw (factor-read c, x-read c) (product-fits c)

pub nearest-requires : goal.nearest-requires
nearest-requires c =
    rw (factor-read c, x-read c, to_z-of_z (product-fits c))
    (omega (arith, sixteenths_below c.args.rb c.args.rr c.args.x c.requires.1 c.requires.0 (x-small c)), omega arith)

pub returns : goal.returns
returns c =
    let w = c.before in
    let n = c.nearest in
    let e : n.result ≡ nearest (pos (2 ^ (c.args.rb + 4 - c.args.rr)) *ℤ c.args.x) 16 = n.ensures.0 ∙ ap (λ z. nearest z 16) (given w) in
    rw (back w64 n.result n.type_inv) (
      e ∙ scaled_sixteenths c.args.rb c.args.rr c.args.x c.requires.1,
      omega (arith, ap nat_abs e, scaled_below c.args.rb c.args.rr c.args.x c.requires.1 c.requires.0 (x-small w)),
    )
