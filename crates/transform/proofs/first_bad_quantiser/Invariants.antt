-- What the loop of `transform::first_bad_quantiser` keeps.
use mathlib.Core.Path.{◌≡◌}
use lib.ListN.{get_or}
use Rattle.laws.specs.First.{first_fail}
use Rattle.std.specs.Prelude.{None}
use Rattle.transform_rules.specs.Call.{is_quantiser}
use Rattle.transform.proofs.first_bad_quantiser.Given as goal

abbrev pub invariant-loop-i : goal.invariant-loop-i
invariant-loop-i l = first_fail l.i (λ k. is_quantiser (get_or l.quantisers k 0)) ≡ None
