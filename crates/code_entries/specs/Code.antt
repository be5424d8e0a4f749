-- What the code's struct for a code stands for, and the writer's table of codes.
use Rattle.std.specs.Prelude.{◌≡◌, Bool, true, false, List, ℕ, ◌+◌, ◌*◌, ◌/◌, ◌%◌, ◌^◌, ◌≤◌, ◌<◌, eqb, get_or, Option, Some, None}
use Rattle.bit_rules.specs.Digits.{digits}
use Rattle.bit_rules.specs.Table.{Table}
use Rattle.bit_rules.specs.Write.{place_of, code_at, code_of}
use Rattle.code_entries.specs.declared.Code.{Code}

-- it is the code that Annex C assigns to the value at this place
pub record Assigned (counts : List ℕ) (place : ℕ) (code : Code) : Type 0 where
  pub same : digits code.size code.number ≡ code_at counts 0 1 place
  pub some : 1 ≤ code.size
  pub short : code.size ≤ 16
  pub small : code.number < 2 ^ 25

abbrev pub absent : Option ℕ → Bool
absent (Some k) = false
absent None = true

-- a code in one number: 32 times the number that its bits make, and how many they are
abbrev pub entry_of : Code → ℕ
entry_of code = 32 * code.number + code.size

-- an entry tells the bits of a code; it is 0 where no place was found
pub record Entered (counts : List ℕ) (found : Option ℕ) (entry : ℕ) : Type 0 where
  pub same : digits (entry % 32) (entry / 32) ≡ code_of counts found
  pub short : entry % 32 ≤ 16
  pub none : eqb entry 0 ≡ absent found

-- the entry of each value of a byte
pub record Entries (T : Table) (entries : List ℕ) : Type 0 where
  pub each : (v : ℕ) → v < 256 → Entered T.counts (place_of v T.values) (get_or entries v 0)
