-- Searches, sums, tables and tests on small lists, and distances of rounded numbers, worked out by hand. Assumes nothing.
use mathlib.Core.Path.{◌≡◌, refl}
use mathlib.Core.Bool.{true, false}
use mathlib.Core.List.{[], ◌∷◌, map}
use Prim.Native.Nat.{ℕ, ◌*◌}
use lib.Dec.{ltb}
use lib.IntN.{pos, negsuc}
use Rattle.laws.specs.Index.{sum_to, total_to, tab, join_to, every}
use Rattle.laws.specs.Apart.{apart, apart_rounded}
use Rattle.laws.specs.First.{first_fail, or_here}
use Rattle.std.specs.Prelude.{Some, None}

-- the first of several that fail; none; a failing index that is not below n
pub first_of : (first_fail 5 (λ (i : ℕ). ltb i 2) ≡ Some 2) × (first_fail 5 (λ (i : ℕ). true) ≡ None) × (first_fail 2 (λ (i : ℕ). ltb i 2) ≡ None) × (first_fail 3 (λ (i : ℕ). ltb i 2) ≡ Some 2)
unfolding first_fail or_here
first_of = (refl, refl, refl, refl)

pub summed : sum_to 4 (λ (i : ℕ). pos (i * i)) ≡ pos 14
unfolding sum_to
summed = refl

pub totalled : total_to 4 (λ (i : ℕ). i * i) ≡ 14
unfolding total_to
totalled = refl

-- how far 20 is from 3 times 6 and 3 times 7, and -20 from 3 times -6
pub distances : apart 3 (pos 20) (pos 6) ∷ apart 3 (pos 20) (pos 7) ∷ apart 3 (negsuc 19) (negsuc 5) ∷ [] ≡ 2 ∷ 1 ∷ 2 ∷ []
distances = refl

-- 80/10 is 16 times 5/10: rounded 8 and 1, so 8 apart; 5/10 and itself are not; 4/10 and 5/10, 1 between them, are rounded 0 and 1; 3/10 is 4 times 5/10 but for 17/10: rounded 0 and 1, so 4 apart
pub roundings : apart_rounded 16 0 10 ∷ apart_rounded 1 0 10 ∷ apart_rounded 1 1 10 ∷ apart_rounded 4 17 10 ∷ [] ≡ 8 ∷ 0 ∷ 1 ∷ 4 ∷ []
unfolding apart_rounded
roundings = refl

pub tabled : tab 3 (λ (i : ℕ). i * 10) ≡ 0 ∷ 10 ∷ 20 ∷ []
unfolding tab
tabled = refl

pub joined : join_to 3 (λ (i : ℕ). i ∷ i ∷ []) ≡ 0 ∷ 0 ∷ 1 ∷ 1 ∷ 2 ∷ 2 ∷ []
unfolding join_to
joined = refl

pub tested : map every ([] ∷ (true ∷ true ∷ []) ∷ (true ∷ false ∷ []) ∷ (false ∷ true ∷ []) ∷ []) ≡ true ∷ true ∷ false ∷ false ∷ []
unfolding every
tested = refl
