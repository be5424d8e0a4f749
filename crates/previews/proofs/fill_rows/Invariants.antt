-- What the loop of `previews::fill_rows` keeps.
use mathlib.Core.Path.{◌≡◌}
use mathlib.Core.List.{List}
use Prim.Native.Nat.{ℕ}
use lib.ListN.{get_or}
use Rattle.laws.proofs.Fill.{front}
use Rattle.transform_rules.specs.Zigzag.{zigzag_at}
use Rattle.previews.proofs.fill_rows.Given as goal

-- the quantiser at place p of the rows
abbrev pub row_of : List ℕ → ℕ → ℕ
row_of quantisers p = get_or quantisers (zigzag_at p) 0

abbrev pub invariant-loop-p : goal.invariant-loop-p
invariant-loop-p l = l.rows ≡ front l.initial.rows (row_of l.quantisers) l.p
