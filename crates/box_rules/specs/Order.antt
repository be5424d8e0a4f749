-- P11: "Bytes are handed out exactly if an ordering of all of them exists whose sequence numbers read 1, 2, .. n,
-- all with one LBox, and whose payloads joined have LBox-8 bytes; then these are the bytes (given room)."
-- The rule "reads the stated length less the box head in place of LBox-8" (A5).
use Rattle.std.specs.Prelude.{ℕ, zero, suc, ◌≤◌, ◌<◌, ◌≡◌, List, [], ◌∷◌, ◌++◌, true, length, Ok}
use Rattle.box_rules.specs.declared.Head.{Head}
use Rattle.box_rules.specs.Walk.{walk, ending}
use Rattle.box_rules.specs.Packets.{Packet, packets, mine}
use Rattle.box_rules.specs.Numbers.{numbers}
use Rattle.box_rules.specs.Box.{agree, contents}

-- P11: the second list is an ordering of the first
pub data Reordered : List Packet → List Packet → Type 0 where
  none : Reordered [] []
  keep : {p : Packet} {a b : List Packet} → Reordered a b → Reordered (p ∷ a) (p ∷ b)
  swap : {p q : Packet} {a : List Packet} → Reordered (p ∷ (q ∷ a)) (q ∷ (p ∷ a))
  both : {a b c : List Packet} → Reordered a b → Reordered b c → Reordered a c

-- P11: q, q + 1, .., k numbers in all
unfoldable pub counting : ℕ → ℕ → List ℕ
counting q zero = []
counting q (suc k) = q ∷ counting (suc q) k

-- P11: "payloads joined"
unfoldable pub payloads : List Packet → List ℕ
payloads [] = []
payloads (p ∷ r) = p.payload ++ payloads r

-- P11: an ordering of packets that makes a box, all of them stating the length that `h` states
pub record Makes (ps order : List Packet) (h : Head) : Type 0 where
  pub all : Reordered ps order
  pub reads : numbers order ≡ counting 1 (length ps)
  pub one : agree h order ≡ true
  pub fills : length (payloads order) ≡ contents h

-- P11: the bytes b are handed out, by this sentence: the walk ends well, the type and instance has packets, an ordering of them makes a box, and there is room
pub record HandedOut (file : List ℕ) (kind instance room : ℕ) (b : List ℕ) : Type 0 where
  pub well : ending (walk file) ≡ Ok 0
  pub some : 0 < length (mine kind instance (packets file))
  pub order : List Packet
  pub stated : Head
  pub makes : Makes (mine kind instance (packets file)) order stated
  pub bytes : b ≡ payloads order
  pub fits : length b ≤ room
