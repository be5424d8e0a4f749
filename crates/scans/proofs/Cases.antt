-- What a pass of the code says of packets and their numbers, worked out by hand and computed.
use mathlib.Core.Path.{◌≡◌, refl}
use mathlib.Core.List.{[], ◌∷◌}
use Prim.Native.Nat.{ℕ}
use mathlib.Core.Bool.{true, false}
use Rattle.box_rules.specs.declared.Head.{Head}
use Rattle.box_rules.specs.Walk.{be16, be32, head_at, ones, barred, tagged, packet_at, whole_at, sized_at, marked_at, step_at, steps_in, steps_from}
use Rattle.box_rules.specs.Packets.{packets_in, is_mine, mine, mine_from}
use Rattle.box_rules.specs.Numbers.{count, least, first_twice, missing_from, first_missing}
use Rattle.box_rules.specs.Box.{alike}
use Rattle.scans.specs.declared.Scan.{Scan}
use Rattle.scans.specs.declared.Fault.TheVariants.{Fine, Twice, Missing}
use Rattle.scans.specs.Code.{mine_of, found_more, in_order, rises, fault_of}

-- numbers in order or not, rising or not; 6 before 7
pub words : (in_order 1 (1 ∷ 2 ∷ 3 ∷ []) ≡ true)
    × (in_order 1 (1 ∷ 3 ∷ 2 ∷ []) ≡ false)
    × (rises 0 (0 ∷ 2 ∷ 5 ∷ []) ≡ true)
    × (rises 0 (0 ∷ 2 ∷ 2 ∷ []) ≡ false)
    × (fault_of (2 ∷ 2 ∷ []) ≡ Twice 2)
    × (fault_of (2 ∷ 3 ∷ []) ≡ Missing 1)
    × (fault_of (2 ∷ 1 ∷ []) ≡ Fine)
unfolding count least first_twice missing_from first_missing in_order rises fault_of
words = (refl, refl, refl, refl, refl, refl, refl)

abbrev stating : ℕ → ℕ → Head
stating q lbox = record { instance = 1; number = q; stated = lbox; heading = 8; kind = 2 }

-- the packets of a whole file stand behind its first two bytes: one of type 2, instance 1, with the payload 7
pub whole_file : mine_of (0xFF ∷ 0xD8 ∷ 0xFF ∷ 0xEB ∷ 0 ∷ 19 ∷ 0x4A ∷ 0x50 ∷ 0 ∷ 1 ∷ 0 ∷ 0 ∷ 0 ∷ 3 ∷ 0 ∷ 0 ∷ 0 ∷ 9 ∷ 0 ∷ 0 ∷ 0 ∷ 2 ∷ 7 ∷ 0xFF ∷ 0xDA ∷ []) 2 1
    ≡ record { head = stating 3 9; payload = 7 ∷ [] } ∷ []
unfolding be16 be32 head_at ones barred tagged packet_at whole_at sized_at marked_at step_at steps_in steps_from packets_in is_mine mine mine_from
whole_file = refl

abbrev found : ℕ → ℕ → ℕ → ℕ → Scan
found n total above end = record { n = n; total = total; agree = true; ordered = true; rising = true; above = above; end = end }

-- behind two packets of five bytes in all, the third in order with four more; then one that states another length and has a number below those before it
pub scans : (found_more (found 2 5 3 40) (stating 1 17) (stating 3 17) 4 70 ≡ found 3 9 4 70)
    × (found_more (found 2 5 3 40) (stating 1 17) (stating 2 18) 4 70 ≡ record { n = 3; total = 9; agree = false; ordered = false; rising = false; above = 3; end = 70 })
unfolding alike
scans = (refl, refl)
