-- What the loop of `settings::first_large` keeps.
use mathlib.Core.Path.{◌≡◌}
use Rattle.laws.specs.First.{first_fail}
use Rattle.std.specs.Prelude.{None}
use Rattle.merge_rules.specs.Settings.{entry_right}
use Rattle.settings.proofs.first_large.Given as goal

abbrev pub invariant-loop-i : goal.invariant-loop-i
invariant-loop-i l = first_fail l.i (entry_right l.most l.table) ≡ None
