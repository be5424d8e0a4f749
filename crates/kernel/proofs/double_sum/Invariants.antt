-- What the loop of `kernel::double_sum` keeps.
use mathlib.Core.Path.{◌≡◌}
use Rattle.laws.specs.Index.{sum_to}
use Rattle.transform_rules.specs.Samples.{row_sum}
use Rattle.kernel.proofs.double_sum.Given as goal

abbrev pub invariant-loop-v : goal.invariant-loop-v
invariant-loop-v l = l.sum ≡ sum_to l.v (row_sum l.s l.x l.y)
