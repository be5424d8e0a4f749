-- `rounding::top_of` meets its contract. Assumes nothing.
use mathlib.Core.Path.{ap}
use Prim.Native.Nat.{◌-◌}
use native.Mathlib.Omega.{arith}
use Rattle.rounding.proofs.Laws.{top_above, top_below}
use Rattle.rounding.proofs.top_of.Goals as goal

pub overflow_sub-result : goal.overflow_sub-result
overflow_sub-result c = omega (arith, top_above c.args.r c.requires)

pub returns : goal.returns
returns c = (ap (λ n. n - 1) c.power.ensures, omega (arith, top_below c.args.r c.requires))
