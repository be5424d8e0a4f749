-- A code table: how many codes there are of each length, 1 to 16, and the values in the order of their codes (T.81, Annex C).
use Rattle.std.specs.Prelude.{Bool, true, false, cond, List, [], ◌∷◌, ℕ, ◌+◌, ◌*◌, ◌^◌, eqb, leb, length}
use Rattle.laws.specs.Index.{every}

-- K1: the counts of the lengths 1 to 16, and the values
pub record Table : Type 0 where
  pub counts : List ℕ
  pub values : List ℕ

-- K1: the table of two lists
abbrev pub table : List ℕ → List ℕ → Table
table counts values = record { counts = counts; values = values }

-- K1: how many codes there are
unfoldable pub code_count : List ℕ → ℕ
code_count [] = 0
code_count (n ∷ counts) = n + code_count counts

-- K1: "the sum over lengths l of count times 2^(16-l)", for 16 counts
unfoldable pub kraft : List ℕ → ℕ
kraft [] = 0
kraft (n ∷ counts) = n * 2 ^ length counts + kraft counts

-- K1: a value stands in a list
unfoldable pub holds : ℕ → List ℕ → Bool
holds v [] = false
holds v (x ∷ values) = cond (eqb x v) true (holds v values)

-- K1: no value stands twice
unfoldable pub distinct : List ℕ → Bool
distinct [] = true
distinct (v ∷ values) = cond (holds v values) false (distinct values)

-- K1, K2, K6: "16 counts and as many distinct values as they sum to (1 to 256), .. the sum .. at most 65,535"
unfoldable pub good_table : Table → Bool
good_table T =
    every (
    eqb (length T.counts) 16
    ∷ leb 1 (length T.values)
    ∷ leb (length T.values) 256
    ∷ eqb (code_count T.counts) (length T.values)
    ∷ leb (kraft T.counts) 65535
    ∷ distinct T.values
    ∷ [])
