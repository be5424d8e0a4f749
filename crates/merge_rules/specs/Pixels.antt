-- One pixel: a number, or one for each of three components.
use Rattle.std.specs.Prelude.{ℕ, zero, suc}

-- M4: of one component, or of three
pub data Pixel (A : Type 0) : Type 0 where
  single : A → Pixel A
  triple : A → A → A → Pixel A

-- M4: the same done to each number
unfoldable pub each : {A B : Type 0} → (A → B) → Pixel A → Pixel B
each f (single a) = single (f a)
each f (triple a b c) = triple (f a) (f b) (f c)

-- M4: two pixels taken number by number (both are single, or both triple, in every use)
unfoldable pub both : {A B C : Type 0} → (A → B → C) → Pixel A → Pixel B → Pixel C
both f (single a) (single d) = single (f a d)
both f (single a) (triple d e g) = single (f a d)
both f (triple a b c) (single d) = triple (f a d) (f b d) (f c d)
both f (triple a b c) (triple d e g) = triple (f a d) (f b e) (f c g)

-- M4: the number of component k
unfoldable pub component : {A : Type 0} → ℕ → Pixel A → A
component k (single a) = a
component zero (triple a b c) = a
component (suc zero) (triple a b c) = b
component (suc (suc k)) (triple a b c) = c
