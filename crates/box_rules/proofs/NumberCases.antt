-- 6 and 7, worked out by hand and computed: 0, the largest number, the smallest of two, and both sides of 1..n.
use Prim.Native.Nat.{ℕ}
use mathlib.Core.Path.{◌≡◌, refl}
use mathlib.Core.List.{List, [], ◌∷◌}
use mathlib.Core.Bool.{true, false}
use Rattle.std.specs.Prelude.{Some, None}
use Rattle.box_rules.specs.Packets.{Packet, packets_in, is_mine, mine, mine_from}
use Rattle.box_rules.specs.Walk.{be16, be32, head_at, ones, barred, tagged, packet_at, whole_at, sized_at, marked_at, step_at, steps_in, steps_from}
use Rattle.box_rules.specs.Numbers.{numbers, numbers_from, count, least, first_twice, missing_from, first_missing, within, between}

-- a packet whose numbers all differ but its sequence number
abbrev numbered : ℕ → Packet
numbered q = record { head = record { instance = 11; number = q; stated = 12; heading = 8; kind = 13 }; payload = 14 ∷ [] }

pub in_file_order : numbers (numbered 3 ∷ numbered 0 ∷ numbered 3 ∷ []) ≡ 3 ∷ 0 ∷ 3 ∷ []
unfolding numbers
in_file_order = refl

-- how often a number stands
pub counts : (count 3 [] ≡ 0) × (count 3 (1 ∷ 2 ∷ []) ≡ 0) × (count 3 (3 ∷ 1 ∷ []) ≡ 1) × (count 3 (3 ∷ 1 ∷ 3 ∷ 3 ∷ []) ≡ 3)
unfolding count
counts = (refl, refl, refl, refl)

-- a packet of a type and instance of one byte each, with a number and no payload, in front of what follows
abbrev packet : ℕ → ℕ → ℕ → List ℕ → List ℕ
packet kind instance q r =
    0xFF ∷ 0xEB ∷ 0x00 ∷ 0x12 ∷ 0x4A ∷ 0x50 ∷ 0x00 ∷ instance ∷ 0 ∷ 0 ∷ 0 ∷ q ∷ 0 ∷ 0 ∷ 0 ∷ 8 ∷ 0 ∷ 0 ∷ 0 ∷ kind ∷ r

-- of four packets, types 7, 9, 7, 7 and instances 9, 7, 9, 8, those of type 7 and instance 9 are the first and the third
pub of_one_box : numbers_from (0xFF ∷ 0xD8 ∷ packet 7 9 4 (packet 9 7 5 (packet 7 9 6 (packet 7 8 3 (0xFF ∷ 0xDA ∷ []))))) 7 9 2 ≡ 4 ∷ 6 ∷ []
unfolding be16 be32 head_at ones barred tagged packet_at whole_at sized_at marked_at step_at steps_in steps_from packets_in is_mine mine mine_from numbers numbers_from
of_one_box = refl

-- 6, "a sequence number stands twice": "the smallest such"
pub twice : (first_twice [] ≡ None)
    × (first_twice (0 ∷ []) ≡ None)
    × (first_twice (0 ∷ 0 ∷ []) ≡ Some 0)
    × (first_twice (1 ∷ 2 ∷ 3 ∷ []) ≡ None)
    × (first_twice (2 ∷ 1 ∷ 2 ∷ []) ≡ Some 2)
    × (first_twice (5 ∷ 4 ∷ 5 ∷ 4 ∷ []) ≡ Some 4)
    × (first_twice (4 ∷ 5 ∷ 5 ∷ 4 ∷ []) ≡ Some 4)
    × (first_twice (7 ∷ 7 ∷ 7 ∷ []) ≡ Some 7)
    × (first_twice (4294967295 ∷ 1 ∷ 4294967295 ∷ []) ≡ Some 4294967295)
unfolding count least first_twice
twice = (refl, refl, refl, refl, refl, refl, refl, refl, refl)

-- 7, "a sequence number is missing": "smallest missing of 1..n"; 0 is a number, and none of 1..n
pub missing : (first_missing [] ≡ None)
    × (first_missing (0 ∷ []) ≡ Some 1)
    × (first_missing (1 ∷ []) ≡ None)
    × (first_missing (2 ∷ []) ≡ Some 1)
    × (first_missing (2 ∷ 1 ∷ []) ≡ None)
    × (first_missing (1 ∷ 3 ∷ []) ≡ Some 2)
    × (first_missing (0 ∷ 1 ∷ []) ≡ Some 2)
    × (first_missing (5 ∷ 1 ∷ 4 ∷ 2 ∷ []) ≡ Some 3)
    × (first_missing (6 ∷ 1 ∷ 5 ∷ 7 ∷ []) ≡ Some 2)
    × (first_missing (4294967295 ∷ 1 ∷ []) ≡ Some 2)
unfolding count missing_from first_missing
missing = (refl, refl, refl, refl, refl, refl, refl, refl, refl, refl)

-- what a window from 2 on and below 4 holds
pub windows : (within 2 4 1 ≡ false)
    × (within 2 4 2 ≡ true)
    × (within 2 4 3 ≡ true)
    × (within 2 4 4 ≡ false)
    × (between 2 4 (4 ∷ 3 ∷ 1 ∷ 2 ∷ 3 ∷ []) ≡ 3)
unfolding within between
windows = (refl, refl, refl, refl, refl)
