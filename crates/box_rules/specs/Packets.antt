-- P4: the packets that a walk meets, and those of one type and instance.
use Rattle.std.specs.Prelude.{ℕ, List, [], ◌∷◌, Bool, false, cond, take, drop, eqb}
use Rattle.box_rules.specs.declared.Head.{Head}
use Rattle.box_rules.specs.declared.Step.{Step}
use Rattle.box_rules.specs.declared.Step.TheVariants.{End, Skip, Meet, Broken}
use Rattle.box_rules.specs.Walk.{steps_from, walk}

-- P1: a packet: what its head states, and its payload; where it stands is no part of it
pub record Packet : Type 0 where
  pub head : Head
  pub payload : List ℕ

-- P1: the packet with this head, and len bytes of payload from start on
abbrev pub packet : List ℕ → Head → ℕ → ℕ → Packet
packet file head start len = record { head = head; payload = take len (drop start file) }

-- P4: the packets of a list of steps, in file order
unfoldable pub packets_in : List ℕ → List Step → List Packet
packets_in file [] = []
packets_in file (End ∷ r) = packets_in file r
packets_in file (Broken f ∷ r) = packets_in file r
packets_in file (Skip next ∷ r) = packets_in file r
packets_in file (Meet head start len next ∷ r) = packet file head start len ∷ packets_in file r

-- P4: the packets of a file
unfoldable pub packets : List ℕ → List Packet
packets file = packets_in file (walk file)

-- P4: "For an asked type and instance, take its n packets."
unfoldable pub is_mine : ℕ → ℕ → Head → Bool
is_mine kind instance head = cond (eqb head.kind kind) (eqb head.instance instance) false

-- P4: the packets of this type and instance, in file order
unfoldable pub mine : ℕ → ℕ → List Packet → List Packet
mine kind instance [] = []
mine kind instance (p ∷ r) = cond (is_mine kind instance p.head) (p ∷ mine kind instance r) (mine kind instance r)

-- ---- the same from a position on, for the passes over a file

-- P4: those that a walk from here on meets
unfoldable pub mine_from : List ℕ → ℕ → ℕ → ℕ → List Packet
mine_from file kind instance at = mine kind instance (packets_in file (steps_from file at))
