-- What the loop of `levels::search_outside` keeps.
use mathlib.Core.Path.{◌≡◌}
use Rattle.laws.specs.First.{first_fail}
use Rattle.std.specs.Prelude.{None}
use Rattle.levels.specs.Level.{inside}
use Rattle.levels.proofs.search_outside.Given as goal

abbrev pub invariant-loop-i : goal.invariant-loop-i
invariant-loop-i l = first_fail l.i (inside l.part l.level l.values) ≡ None
