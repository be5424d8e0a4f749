-- T5: the zigzag order (T.81, Figure 5), by its rule: along the anti-diagonals, to and fro.
use Rattle.std.specs.Prelude.{cond, List, ℕ, zero, suc, ◌+◌, ◌-◌, ◌/◌, ◌%◌, min, eqb}
use Rattle.laws.specs.Index.{tab}

-- T5: anti-diagonal d is where v + u = d; its rows v go from d - 7, or from 0 (a difference below 0 is 0), ..
unfoldable pub first_row : ℕ → ℕ
first_row d = d - 7

-- T5: .. to d, or to 7
unfoldable pub last_row : ℕ → ℕ
last_row d = min d 7

-- T5: how many places the anti-diagonals before d have
unfoldable pub places_before : ℕ → ℕ
places_before zero = 0
places_before (suc d) = places_before d + (last_row d + 1 - first_row d)

-- T5: the zigzag index of row v, column u: odd anti-diagonals are walked downward, even ones upward
unfoldable pub zigzag : ℕ → ℕ → ℕ
zigzag v u = places_before (v + u) + cond (eqb ((v + u) % 2) 1) (v - first_row (v + u)) (last_row (v + u) - v)

-- T5: the same where the 64 places are counted row by row
unfoldable pub zigzag_at : ℕ → ℕ
zigzag_at p = zigzag (p / 8) (p % 8)

-- T5: all 64, as T.81 prints them
unfoldable pub zigzag_order : List ℕ
zigzag_order = tab 64 zigzag_at
