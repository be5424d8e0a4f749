-- Bytes put at a position, and what the copying of a box asks of its packets.
use Rattle.std.specs.Prelude.{ℕ, ◌+◌, ◌≤◌, ◌≡◌, List, ◌++◌, length, take, drop}
use Rattle.box_rules.specs.Packets.{Packet}
use Rattle.box_rules.specs.Numbers.{numbers}
use Rattle.box_rules.specs.Box.{joined_from, joined}
use Rattle.scans.specs.declared.Fault.TheVariants.{Fine}
use Rattle.scans.specs.Code.{fault_of}

-- d with the bytes b at position at
unfoldable pub put_at : List ℕ → ℕ → List ℕ → List ℕ
put_at d at b = take at d ++ b ++ drop (at + length b) d

-- n packets whose numbers read 1 to n in some order, and room for their payloads
pub record Numbered (ps : List Packet) (n room : ℕ) : Type 0 where
  pub many : n ≡ length ps
  pub once : fault_of (numbers ps) ≡ Fine
  pub fits : length (joined ps) ≤ room

-- the same for the k packets behind number `passed`, with places for them
pub record Windowed (ps : List Packet) (passed k places to room : ℕ) : Type 0 where
  pub few : passed + k ≤ length ps
  pub held : k ≤ places
  pub once : fault_of (numbers ps) ≡ Fine
  pub fits : to + length (joined_from k (passed + 1) ps) ≤ room
