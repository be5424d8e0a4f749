-- What one pass over the packets of a type and instance finds, and what is wrong with their numbers.
use Rattle.std.specs.Prelude.{ℕ, ◌+◌, suc, ◌≡◌, List, [], ◌∷◌, Bool, false, cond, true, length, eqb, leb, Option, Some, None}
use Rattle.box_rules.specs.declared.Head.{Head}
use Rattle.box_rules.specs.Packets.{Packet, mine_from}
use Rattle.box_rules.specs.Numbers.{numbers, first_twice, first_missing}
use Rattle.box_rules.specs.Box.{alike, agree, total}
use Rattle.scans.specs.declared.Scan.{Scan}
use Rattle.scans.specs.declared.Fault.{Fault}
use Rattle.scans.specs.declared.Fault.TheVariants.{Fine, Twice, Missing}

-- the packets of a type and instance, of a whole file whose walk ends well
abbrev pub mine_of : List ℕ → ℕ → ℕ → List Packet
mine_of file kind instance = mine_from file kind instance 2

-- the tests of a pass in file order: the numbers read q, q + 1, ..; each is above those before it, the first at least a
unfoldable pub in_order : ℕ → List ℕ → Bool
in_order q [] = true
in_order q (x ∷ r) = cond (eqb x q) (in_order (suc q) r) false

unfoldable pub rises : ℕ → List ℕ → Bool
rises a [] = true
rises a (x ∷ r) = cond (leb a x) (rises (suc x) r) false

-- what one pass finds of a list of packets
pub record Scanned (ps : List Packet) (h : Head) (r : Scan) : Type 0 where
  pub lengths : r.n ≡ length ps
  pub totals : r.total ≡ total ps
  pub agrees : r.agree ≡ agree h ps
  pub orders : r.ordered ≡ in_order 1 (numbers ps)
  pub rising : r.rising ≡ rises 0 (numbers ps)

-- what a pass has found behind one packet more, which has a head, len bytes of payload and the next segment at `next`
abbrev pub found_more : Scan → Head → Head → ℕ → ℕ → Scan
found_more s h head len next = record {
  n = s.n + 1;
  total = s.total + len;
  agree = cond s.agree (alike h head) false;
  ordered = cond s.ordered (eqb head.number (s.n + 1)) false;
  rising = cond s.rising (leb s.above head.number) false;
  above = head.number + 1;
  end = next;
}

-- what is wrong with sequence numbers: 6 before 7
abbrev pub fault_by : Option ℕ → Option ℕ → Fault
fault_by (Some q) m = Twice q
fault_by None (Some q) = Missing q
fault_by None None = Fine

unfoldable pub fault_of : List ℕ → Fault
fault_of ns = fault_by (first_twice ns) (first_missing ns)
