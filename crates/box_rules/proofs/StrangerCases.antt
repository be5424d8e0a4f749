-- Who is a stranger to a type and instance (P24), and segments of two files that are the same for it: worked out by hand. Assumes nothing.
use Prim.Native.Nat.{ℕ}
use mathlib.Core.Path.{refl}
use mathlib.Core.List.{[], ◌∷◌}
use native.Mathlib.Omega.{arith}
use Rattle.box_rules.specs.Layout.{Part, packed, other, Stranger, SameFor, empty, shared, here, there, exchanged, through}

-- a packet of this type, instance and number, behind so much fill
abbrev from : ℕ → ℕ → ℕ → ℕ → Part
from fill kind instance number =
    packed fill (record { head = record { instance = instance; number = number; stated = 8; heading = 8; kind = kind }; payload = [] })

-- another instance, another type, and no packet
pub strange : Stranger 5 7 (from 0 5 8 1) × Stranger 5 7 (from 0 6 7 1) × Stranger 5 7 (other 0 0xFE [])
strange = (λ k i. omega arith, λ k i. omega arith, tt)

pub its_own : Stranger 5 7 (from 0 5 7 1) → ⊥
its_own s = s refl refl

-- strangers left out and put in, other fill, the other way round
pub same : SameFor 5 7 (from 0 5 8 1 ∷ from 0 5 7 1 ∷ from 0 5 7 2 ∷ []) (from 3 5 7 2 ∷ from 0 6 7 1 ∷ other 0 0xFE [] ∷ from 1 5 7 1 ∷ [])
same = here strange.0 (through exchanged (shared 0 3 (there strange.1 (there tt (shared 0 1 empty)))))
