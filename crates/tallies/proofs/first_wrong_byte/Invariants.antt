-- What the loop of `tallies::first_wrong_byte` keeps.
use mathlib.Core.Path.{◌≡◌}
use lib.Dec.{eqb}
use Rattle.laws.specs.First.{first_fail}
use Rattle.std.specs.Prelude.{None}
use Rattle.test_rules.specs.Wanted.{is_wanted}
use Rattle.tallies.proofs.first_wrong_byte.Given as goal

abbrev pub invariant-loop-i : goal.invariant-loop-i
invariant-loop-i l = first_fail l.i (is_wanted eqb 0 7 l.output l.expected l.number) ≡ None
