-- `curves::straight` meets its contract: the product fits 32 bits. Assumes nothing.
use mathlib.Core.Path.{◌≡◌, ap, ◌∙◌}
use Prim.Native.Nat.{◌*◌, ◌≤◌}
use native.Mathlib.Omega.{arith}
use lib.IntN.{pos}
use mir.Syntax.{w64}
use mir.Val.{to_z, of_z}
use Rattle.laws.proofs.Integers.{back}
use Rattle.merge_rules.specs.Near.{nearest}
use Rattle.rounding.proofs.Laws.{top_above}
use Rattle.merge_rules.specs.Curves.{straight}
use Rattle.curves.proofs.Laws.{product_below}
use Rattle.curves.proofs.straight.Goals as goal

pub overflow_mul-product : goal.overflow_mul-product
overflow_mul-product c = record { fits = omega (arith, product_below c.args.x c.top_of.result c.ranges.x.fits c.top_of.ensures.1) }

module _ (c : goal.After-top_of-2) where
  product-read : to_z w64 (of_z w64 c.wide_count.result) ≡ pos (c.args.x * c.top_of.result)
  product-read = back w64 c.wide_count.result c.wide_count.type_inv ∙ c.wide_count.ensures

  product_small : c.args.x * c.top_of.result ≤ 4294836225
  product_small = product_below c.args.x c.top_of.result c.ranges.x.fits c.top_of.ensures.1

pub nearest-requires : goal.nearest-requires
nearest-requires c = rw (product-read c) (omega (arith, product_small c), omega (arith, c.top_of-2.ensures.0, top_above c.args.rh (omega arith)))

pub returns : goal.returns
unfolding straight
returns c = rw (back w64 c.nearest.result c.nearest.type_inv) (
  c.nearest.ensures.0 ∙ ap (λ z. nearest z c.top_of-2.result) (product-read c.before ∙ ap (λ t. pos (c.args.x * t)) c.top_of.ensures.0) ∙ ap (nearest _) c.top_of-2.ensures.0,
  omega (arith, rw (product-read c.before) at c.nearest.ensures.1, product_small c.before),
)
