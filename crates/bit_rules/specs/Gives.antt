-- A source gives bits: the relation in which round trips are stated, by what is pending and coming and by no count.
use Rattle.std.specs.Prelude.{◌≡◌, Bool, true, List, [], ◌∷◌, ℕ, ◌<◌, replicate}
use Rattle.bit_rules.specs.Source.{Source, got, take_bit}

-- K4: from s on these bits are taken, and u is left
abbrev pub Gives : Source → List Bool → Source → Type 0
Gives s [] u = s ≡ u
Gives s (b ∷ bits) u = (t : Source) × (take_bit s ≡ got b t) × Gives t bits u

-- these bits are pending and these bytes are coming, however many were read before
abbrev pub Unread : Source → List Bool → List ℕ → Type 0
Unread s pending coming = (s.pending ≡ pending) × (s.coming ≡ coming)

-- these bytes give these bits, then fewer than eight ones, then the end
pub record Says (bytes : List ℕ) (bits : List Bool) : Type 0 where
  pub from : (s : Source) → Unread s [] bytes → (pad : ℕ) × (u : Source) × (pad < 8) × Gives s bits u × Unread u (replicate pad true) []
