-- `previews::term` meets its contract: the product fits, by its size. Assumes nothing.
use borrow.Author.Rules.{rules}
use mathlib.Core.Path.{ap}
use Prim.Native.Nat.{◌+◌, ◌*◌, ◌≤◌}
use native.Mathlib.Nat.{mul-le-mul}
use native.Mathlib.Omega.{arith}
use lib.ListN.{get_or}
use Rattle.previews.proofs.Tables.{magnitude_small}
use Rattle.previews.proofs.term.Goals as goal

pub overflow_mul-result : goal.overflow_mul-result
overflow_mul-result c = let product_small : (c.magnitude.result * get_or c.args.numbers.now (c.args.v * 8 + c.args.k) 0 ≤ 8192 * 16711680) = rw c.magnitude.ensures (mul-le-mul (magnitude_small c.args.x c.args.k (omega (arith, c.requires.x_bound.0)) c.requires.x_bound.1.0) (c.requires.table_value.1.few (c.args.v * 8 + c.args.k))) in
    let h = product_small in search rules

pub returns : goal.returns
returns c = ap (λ n. n * get_or c.args.numbers.now (c.args.v * 8 + c.args.k) 0) c.magnitude.ensures
