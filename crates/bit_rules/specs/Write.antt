-- The code of a value, for the writer (T.81, Annex C).
use Rattle.std.specs.Prelude.{Bool, cond, not, List, [], ◌∷◌, ℕ, suc, ◌+◌, ◌-◌, ◌*◌, eqb, ltb, length, get_or, Option, Some, None}
use Rattle.laws.specs.First.{first_fail}
use Rattle.bit_rules.specs.Digits.{digits}
use Rattle.bit_rules.specs.Table.{Table}

-- K3: the place of a value among the table's
unfoldable pub place_of : ℕ → List ℕ → Option ℕ
place_of v values = first_fail (length values) (λ i. not (eqb (get_or values i 0) v))

-- K3: "codes assigned by T.81 Annex C": codes of a length begin at `first`, one for each of its values, and the next length's at twice what follows
unfoldable pub code_at : List ℕ → ℕ → ℕ → ℕ → List Bool
code_at [] first size k = []
code_at (n ∷ counts) first size k = cond (ltb k n) (digits size (first + k)) (code_at counts (2 * (first + n)) (suc size) (k - n))

-- K3: the code at the place that was found; no bits where none was
abbrev pub code_of : List ℕ → Option ℕ → List Bool
code_of counts (Some k) = code_at counts 0 1 k
code_of counts None = []

-- K3: the bits that stand for a value
unfoldable pub word : Table → ℕ → List Bool
word T v = code_of T.counts (place_of v T.values)
