-- Where the packets of a window of sequence numbers stand, by the position from which a pass meets each.
use Rattle.std.specs.Prelude.{ℕ, ◌+◌, ◌<◌, ◌-◌, ◌≡◌, List, ◌∷◌, ◌++◌, cond, length, get_or, set, leb}
use Rattle.box_rules.specs.Packets.{Packet, mine_from}
use Rattle.box_rules.specs.Numbers.{numbers_from, count}

-- the packet that a pass meets from the position on has the number q, and is one of the file's
pub record Stands (file : List ℕ) (kind instance q place : ℕ) : Type 0 where
  pub before : List Packet
  pub split : mine_from file kind instance 2 ≡ before ++ mine_from file kind instance place
  pub rest : List ℕ
  pub first : numbers_from file kind instance place ≡ q ∷ rest

-- a place is 0 where no packet has the number q
pub record PlaceOf (file : List ℕ) (kind instance q place : ℕ) : Type 0 where
  pub gone : place ≡ 0 → count q (numbers_from file kind instance 2) ≡ 0
  pub there : 0 < place → Stands file kind instance q place

-- a place for each of the numbers passed + 1, passed + 2, ..
pub record Located (file : List ℕ) (kind instance passed : ℕ) (places : List ℕ) : Type 0 where
  pub each : (i : ℕ) → i < length places → PlaceOf file kind instance (passed + 1 + i) (get_or places i 0)

-- the places with `at` at the number's index, if it is one of the window's; past the end `set` changes nothing
unfoldable pub marked : ℕ → ℕ → ℕ → List ℕ → List ℕ
marked passed number at places = cond (leb number passed) places (set places (number - (passed + 1)) at)
