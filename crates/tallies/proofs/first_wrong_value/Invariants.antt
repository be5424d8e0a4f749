-- What the loop of `tallies::first_wrong_value` keeps.
use mathlib.Core.Path.{◌≡◌}
use lib.IntN.{pos}
use Rattle.laws.specs.First.{first_fail}
use Rattle.std.specs.Prelude.{None}
use Rattle.test_rules.specs.Wanted.{is_wanted, same_value}
use Rattle.tallies.proofs.first_wrong_value.Given as goal

abbrev pub invariant-loop-i : goal.invariant-loop-i
invariant-loop-i l = first_fail l.i (is_wanted same_value (pos 0) (pos 7) l.output l.expected l.number) ≡ None
