-- What a search by windows of numbers says.
use Rattle.std.specs.Prelude.{ℕ, ◌≤◌, ◌<◌, List, [], ◌∷◌, cond, Option, Some, None}
use Rattle.box_rules.specs.Numbers.{count, within}

-- those that lie there
unfoldable pub chosen : ℕ → ℕ → List ℕ → List ℕ
chosen lo hi [] = []
chosen lo hi (x ∷ r) = cond (within lo hi x) (x ∷ chosen lo hi r) (chosen lo hi r)

-- what a search from lo on and below hi says of the numbers that stand twice
abbrev pub TwiceIn : ℕ → ℕ → List ℕ → Option ℕ → Type 0
TwiceIn lo hi ns None = (j : ℕ) → lo ≤ j → j < hi → count j ns ≤ 1
TwiceIn lo hi ns (Some q) = (1 < count q ns) × ((j : ℕ) → lo ≤ j → j < q → count j ns ≤ 1)
