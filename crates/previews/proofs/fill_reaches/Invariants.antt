-- What the loop of `previews::fill_reaches` keeps.
use mathlib.Core.Path.{◌≡◌}
use mathlib.Core.List.{List}
use Prim.Native.Nat.{ℕ, ◌/◌, ◌%◌}
use Rattle.laws.proofs.Fill.{front}
use Rattle.previews.specs.Code.{along}
use Rattle.previews.proofs.fill_reaches.Given as goal

-- the entry at index p of the table
abbrev pub reach_of : List ℕ → ℕ → ℕ
reach_of rows p = along rows (p / 8) (p % 8)

abbrev pub invariant-loop-p : goal.invariant-loop-p
invariant-loop-p l = l.reaches ≡ front l.initial.reaches (reach_of l.rows) l.p
