-- What the loop of `previews::along` keeps.
use mathlib.Core.Path.{◌≡◌}
use Prim.Native.Nat.{◌+◌, ◌*◌}
use lib.ListN.{get_or}
use Rattle.laws.specs.Index.{total_to}
use Rattle.previews.specs.Code.{magnitude}
use Rattle.previews.proofs.along.Given as goal

abbrev pub invariant-loop-k : goal.invariant-loop-k
invariant-loop-k l = l.sum ≡ total_to l.k (λ i. magnitude l.x i * get_or l.numbers (l.v * 8 + i) 0)
