-- The numbers of a table's lengths as the code keeps them.
use Rattle.std.specs.Prelude.{◌≡◌, true, List, [], ◌∷◌, ℕ}
use Rattle.bit_rules.specs.Table.{Table, good_table}
use Rattle.bit_rules.specs.Lookup.{Length, limit_of, lengths_of}

-- K7: three numbers for each length: the smallest code, the largest plus one, the first value's position
unfoldable pub numbers_of : List Length → List ℕ
numbers_of [] = []
numbers_of (here ∷ longer) = here.smallest ∷ limit_of here.largest ∷ here.position ∷ numbers_of longer

-- K7: a good table, and its numbers
pub record Prepared (T : Table) (numbers : List ℕ) : Type 0 where
  pub good : good_table T ≡ true
  pub made : numbers ≡ numbers_of (lengths_of T)
