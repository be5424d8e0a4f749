-- Bits and numbers.
use Rattle.std.specs.Prelude.{Bool, true, false, List, [], ◌∷◌, ℕ, zero, suc, ◌/◌, ◌%◌, ◌^◌, eqb}

abbrev pub bin : Bool → ℕ
bin true = 1
bin false = 0

abbrev pub odd : ℕ → Bool
odd n = eqb (n % 2) 1

-- B1: the n low bits of v, the highest first
unfoldable pub digits : ℕ → ℕ → List Bool
digits zero v = []
digits (suc n) v = odd (v / 2 ^ n) ∷ digits n v
