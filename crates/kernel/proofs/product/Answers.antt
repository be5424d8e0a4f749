-- `kernel::product` meets its contract: both products fit, by their magnitudes. Assumes nothing.
use borrow.Author.Rules.{rules}
use mathlib.Core.Path.{◌≡◌}
use Prim.Native.Nat.{◌+◌, ◌*◌}
use lib.IntN.{pos, ◌*ℤ◌}
use lib.ListN.{get_or}
use mir.Syntax.{w64}
use mir.Val.{SFits}
use Rattle.laws.proofs.Integers.{fit_in}
use Rattle.transform_rules.specs.Samples.{product}
use Rattle.kernel.proofs.Bounds.{factors_small, product_small}
use Rattle.kernel.proofs.product.Goals as goal

factors-fit : (c : goal.After-kernel-2) → SFits w64 (c.kernel.result *ℤ c.kernel-2.result)
factors-fit c =
    let p = c.requires.x_bound in
    rw (c.kernel.ensures, c.kernel-2.ensures) (fit_in w64 tt (factors_small c.args.x c.args.u c.args.y c.args.v p.0 p.1.1.1 p.1.0 p.1.1.0))

is-product : (c : goal.After-kernel-2)
    → c.kernel.result *ℤ c.kernel-2.result *ℤ get_or c.args.s.now (c.args.v * 8 + c.args.u) (pos 0) ≡ product c.args.s.now c.args.x c.args.y c.args.v c.args.u
unfolding product
is-product c = rw (c.kernel.ensures, c.kernel-2.ensures)

whole-fits : (c : goal.After-kernel-2) → SFits w64 (c.kernel.result *ℤ c.kernel-2.result *ℤ get_or c.args.s.now (c.args.v * 8 + c.args.u) (pos 0))
whole-fits c =
    let p = c.requires.x_bound in
    rw (is-product c) (fit_in w64 tt (product_small c.args.s.now c.requires.table_value.1 c.args.x c.args.y p.0 p.1.0 c.args.v c.args.u p.1.1.0 p.1.1.1))

pub overflow_mul-result : goal.overflow_mul-result
overflow_mul-result c = let f = factors-fit c in search rules

pub overflow_mul-result-2 : goal.overflow_mul-result-2
overflow_mul-result-2 c = let f = factors-fit c.before in let g = whole-fits c.before in search rules

pub returns : goal.returns
returns c = let f = factors-fit c.before in let g = whole-fits c.before in let e = is-product c.before in search rules
