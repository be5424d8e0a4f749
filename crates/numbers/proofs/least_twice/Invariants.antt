-- What the loop of `numbers::least_twice` keeps: the least of what was found and what is left is the least of all.
use Rattle.box_rules.specs.Numbers.{least, first_twice}
use lib.ListN.{drop}
use mathlib.Core.Path.{◌≡◌}
use Rattle.numbers.proofs.least_twice.Given as goal

abbrev pub invariant-loop-i : goal.invariant-loop-i
invariant-loop-i l = least l.w (first_twice (drop l.i l.held)) ≡ first_twice l.held
