-- What the loop of `kernel::row_sum` keeps.
use mathlib.Core.Path.{◌≡◌}
use Rattle.laws.specs.Index.{sum_to}
use Rattle.transform_rules.specs.Samples.{product}
use Rattle.kernel.proofs.row_sum.Given as goal

abbrev pub invariant-loop-u : goal.invariant-loop-u
invariant-loop-u l = l.sum ≡ sum_to l.u (product l.s l.x l.y l.v)
