-- P7 and P8: the number that stands twice (6), and the one that is missing (7).
use Rattle.std.specs.Prelude.{ℕ, zero, suc, min, List, [], ◌∷◌, Bool, false, cond, length, eqb, ltb, Option, Some, None}
use Rattle.box_rules.specs.Packets.{Packet, mine_from}

-- P7: the sequence numbers of packets, in file order
unfoldable pub numbers : List Packet → List ℕ
numbers [] = []
numbers (p ∷ r) = p.head.number ∷ numbers r

-- the numbers of a type and instance, from a position of a file on
unfoldable pub numbers_from : List ℕ → ℕ → ℕ → ℕ → List ℕ
numbers_from file kind instance at = numbers (mine_from file kind instance at)

-- P7: how often a number stands
unfoldable pub count : ℕ → List ℕ → ℕ
count q [] = 0
count q (x ∷ r) = cond (eqb x q) (suc (count q r)) (count q r)

-- P7: the smaller of two numbers, where there is one
unfoldable pub least : Option ℕ → Option ℕ → Option ℕ
least None b = b
least (Some a) None = Some a
least (Some a) (Some b) = Some (min a b)

-- P7: 6, "a sequence number stands twice": "the smallest such"
unfoldable pub first_twice : List ℕ → Option ℕ
first_twice [] = None
first_twice (x ∷ r) = least (cond (eqb (count x r) 0) None (Some x)) (first_twice r)

-- P8: the smallest of the k numbers from q on that does not stand
unfoldable pub missing_from : ℕ → ℕ → List ℕ → Option ℕ
missing_from zero q ns = None
missing_from (suc k) q ns = cond (eqb (count q ns) 0) (Some q) (missing_from k (suc q) ns)

-- P8: 7, "a sequence number is missing": "smallest missing of 1..n"
unfoldable pub first_missing : List ℕ → Option ℕ
first_missing ns = missing_from (length ns) 1 ns

-- ---- how many numbers lie from lo on and below hi

unfoldable pub within : ℕ → ℕ → ℕ → Bool
within lo hi x = cond (ltb x lo) false (ltb x hi)

unfoldable pub between : ℕ → ℕ → List ℕ → ℕ
between lo hi [] = 0
between lo hi (x ∷ r) = cond (within lo hi x) (suc (between lo hi r)) (between lo hi r)
