-- What the loop of `codes::all_distinct` keeps.
use mathlib.Core.Path.{◌≡◌}
use lib.ListN.{drop}
use Rattle.bit_rules.specs.Table.{distinct}
use Rattle.codes.proofs.all_distinct.Given as goal

abbrev pub invariant-loop-i : goal.invariant-loop-i
invariant-loop-i l = distinct (drop l.i l.values) ≡ distinct l.values
