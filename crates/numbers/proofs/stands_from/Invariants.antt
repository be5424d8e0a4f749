-- What the loop of `numbers::stands_from` keeps.
use Rattle.box_rules.specs.Numbers.{count}
use lib.ListN.{drop}
use Prim.Native.Nat.{◌+◌, ◌≤◌}
use mathlib.Core.Path.{◌≡◌}
use Rattle.numbers.proofs.stands_from.Given as goal

abbrev pub invariant-loop-i : goal.invariant-loop-i
invariant-loop-i l = (l.n + count l.q (drop l.i l.held) ≡ count l.q (drop l.from l.held)) × (l.n + l.from ≤ l.i)
