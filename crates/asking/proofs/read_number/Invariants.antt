-- What the loop of `asking::read_number` keeps.
use Rattle.asking.specs.Words.{read_from}
use lib.ListN.{drop}
use Prim.Native.Nat.{◌<◌}
use mathlib.Core.Path.{◌≡◌}
use Rattle.asking.proofs.read_number.Given as goal

abbrev pub invariant-loop-b : goal.invariant-loop-b
invariant-loop-b l = (read_from l.base l.value (drop l.b-index l.word) ≡ read_from l.base 0 l.word) × (l.value < 4294967296)
