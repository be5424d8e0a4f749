-- The fields of records on small lists, worked out by hand. Assumes nothing.
use mathlib.Core.Path.{◌≡◌, refl}
use mathlib.Core.List.{List, [], ◌∷◌, map}
use Prim.Native.Nat.{ℕ}
use lib.IntN.{pos, negsuc}
use Rattle.test_rules.specs.Fields.{past, pair_at, number_at, part, lent, lowered, value_at, size_at}

abbrev five : List ℕ
five = 1 ∷ 2 ∷ 3 ∷ 4 ∷ 5 ∷ []

-- no further than the end, which is reached
pub no_further : past 10 3 4 ∷ past 10 6 4 ∷ past 10 8 4 ∷ [] ≡ 7 ∷ 10 ∷ 10 ∷ []
unfolding past
no_further = refl

-- the low byte first; past the end stand zeros
pub numbers : pair_at five 0 ∷ pair_at five 4 ∷ number_at five 0 ∷ number_at five 3 ∷ [] ≡ 0x0201 ∷ 5 ∷ 0x04030201 ∷ 0x0504 ∷ []
unfolding pair_at number_at
numbers = refl

-- so many bytes, or none
pub parts : part five 1 2 ∷ part five 3 2 ∷ part five 4 2 ∷ lent (2 ∷ 0 ∷ 0 ∷ 0 ∷ 7 ∷ 8 ∷ 9 ∷ []) 0 ∷ [] ≡ (2 ∷ 3 ∷ []) ∷ (4 ∷ 5 ∷ []) ∷ [] ∷ (7 ∷ 8 ∷ []) ∷ []
unfolding part lent pair_at number_at
parts = refl

-- numbers that are stored with 2^31 added
pub values : map lowered (2147483648 ∷ 2147483647 ∷ 2147483653 ∷ []) ≡ pos 0 ∷ negsuc 0 ∷ pos 5 ∷ []
values = refl

pub lists : (value_at (0 ∷ 0 ∷ 0 ∷ 128 ∷ 1 ∷ 0 ∷ 0 ∷ 128 ∷ []) 0 1 ≡ pos 1) × (size_at (1 ∷ 0 ∷ 2 ∷ 3 ∷ []) 0 1 ≡ 0x0302)
unfolding value_at size_at pair_at number_at
lists = (refl, refl)
