-- What the loop of `levels::all_between` keeps.
use mathlib.Core.Path.{◌≡◌}
use mathlib.Core.Bool.{true}
use Rattle.laws.specs.First.{first_fail}
use Rattle.std.specs.Prelude.{None}
use Rattle.levels.specs.Level.{between}
use Rattle.levels.proofs.all_between.Given as goal

abbrev pub invariant-loop-value : goal.invariant-loop-value
invariant-loop-value l = l.good ≡ true → first_fail l.value-index (between l.low l.high l.values) ≡ None
