-- Reading a code, said by the words of the table alone: what comes next is the word of the value that is read, or 16 bits that no word begins.
use Rattle.std.specs.Prelude.{◌≡◌, Bool, List, ◌++◌, ℕ, length, Some}
use Rattle.bit_rules.specs.Source.{Source, Stop, got, stopped, stop}
use Rattle.bit_rules.specs.Gives.{Gives}
use Rattle.bit_rules.specs.Table.{Table}
use Rattle.bit_rules.specs.Read.{take_code}
use Rattle.bit_rules.specs.Write.{place_of, word}

-- K4: the value stands in the table
abbrev pub Has : Table → ℕ → Type 0
Has T v = (k : ℕ) × (place_of v T.values ≡ Some k)

-- K5: no value's word begins these bits
abbrev pub NoWord : Table → List Bool → Type 0
NoWord T bits = (v : ℕ) (rest : List Bool) → Has T v → bits ≡ word T v ++ rest → ⊥

-- K4, K5, B8: a value is read exactly where its word comes next; "16 bits and no code" is told exactly where 16 bits come next and no word begins them,
-- with the offset of the byte that the last of them came from
pub record ReadByWords (T : Table) : Type 0 where
  pub read : (v : ℕ) (s t : Source) → take_code T s ≡ got v t → Has T v × Gives s (word T v) t
  pub reads : (v : ℕ) (s t : Source) → Has T v × Gives s (word T v) t → take_code T s ≡ got v t
  pub missed : (s : Source) (x : Stop) → take_code T s ≡ stopped x → x.number ≡ 14
      → (bits : List Bool) × (t : Source) × (length bits ≡ 16) × Gives s bits t × NoWord T bits × (x.offset ≡ t.last)
  pub misses : (s t : Source) (bits : List Bool) → length bits ≡ 16 → Gives s bits t → NoWord T bits → take_code T s ≡ stopped (stop 14 t.last)
