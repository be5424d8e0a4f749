-- What the loop of `previews::write_owed` keeps.
use mathlib.Core.Path.{◌≡◌}
use mathlib.Core.List.{List}
use Prim.Native.Nat.{ℕ, ◌+◌, ◌*◌, ◌/◌, ◌%◌}
use lib.ListN.{get_or}
use Rattle.laws.proofs.Fill.{front}
use Rattle.previews.specs.Code.{fold}
use Rattle.previews.proofs.write_owed.Given as goal

-- the number at place p of the block
abbrev pub place_of : List ℕ → ℕ → ℕ
place_of owed p = get_or owed (fold (p / 8) * 4 + fold (p % 8)) 0

abbrev pub invariant-loop-p : goal.invariant-loop-p
invariant-loop-p l = l.destination ≡ front l.initial.destination (place_of l.owed) l.p
