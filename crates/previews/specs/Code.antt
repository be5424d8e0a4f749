-- The weights as the code sums them up: first along a row of frequencies, then over the rows, for the first quarter of a block; the other three owe alike.
use Rattle.std.specs.Prelude.{◌≡◌, List, ℕ, ◌+◌, ◌-◌, ◌*◌, ◌/◌, ◌%◌, ◌^◌, min, ◌≤◌, nat_abs, length, get_or}
use Rattle.laws.specs.Index.{total_to, tab}
use Rattle.laws.specs.Apart.{apart_rounded}
use Rattle.transform_rules.specs.Cosines.{kernel}
use Rattle.transform_rules.specs.Zigzag.{zigzag_at}

-- |K(x,u)|
unfoldable pub magnitude : ℕ → ℕ → ℕ
magnitude x u = nat_abs (kernel x u)

-- |K(x,u)| at 8x + u, for x 0 to 3
unfoldable pub magnitude_table : List ℕ
magnitude_table = tab 32 (λ k. magnitude (k / 8) (k % 8))

-- the quantisers row by row, that of row frequency v and column frequency u at 8v + u
unfoldable pub row_table : List ℕ → List ℕ
row_table quantisers = tab 64 (λ p. get_or quantisers (zigzag_at p) 0)

-- row v of the numbers, eight a row, each times |K(x,k)|, added up
unfoldable pub along : List ℕ → ℕ → ℕ → ℕ
along numbers x v = total_to 8 (λ k. magnitude x k * get_or numbers (v * 8 + k) 0)

-- what the row frequency v brings to column x, at 8x + v, for x 0 to 3
unfoldable pub reach_table : List ℕ → List ℕ
reach_table rows = tab 32 (λ p. along rows (p / 8) (p % 8))

-- what each place of the first quarter owes, from such a table, d being 2^left: the weight of row y, column x goes along what the row frequencies bring to the column
unfoldable pub quarter : ℕ → List ℕ → List ℕ
quarter d reaches = tab 16 (λ p. apart_rounded d ((d - 1) * along reaches (p / 4) (p % 4)) (2 ^ 28))

-- the row or column of the first four that owes as much: |K(7-x,u)| is |K(x,u)|
unfoldable pub fold : ℕ → ℕ
fold i = min i (7 - i)

-- all places from the first quarter
unfoldable pub unfolded : List ℕ → List ℕ
unfolded owed = tab 64 (λ p. get_or owed (fold (p / 8) * 4 + fold (p % 8)) 0)

-- what the code asks of quantisers that were not refused (past the end a list gives 0)
pub record Quantised (quantisers : List ℕ) : Type 0 where
  pub tabled : length quantisers ≡ 64
  pub small : (k : ℕ) → get_or quantisers k 0 ≤ 255

-- what it asks of numbers that it goes along: no more than a row of quantisers can bring
pub record Few (numbers : List ℕ) : Type 0 where
  pub few : (k : ℕ) → get_or numbers k 0 ≤ 16711680
