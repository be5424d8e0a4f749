-- The whiteboard's cases a and b (S1, S2), a box of length 0, and each pair of refusals that stand next to one another as one input with both faults: worked out by hand, computed.
use Prim.Native.Nat.{ℕ}
use mathlib.Core.Path.{◌≡◌, refl}
use mathlib.Core.List.{List, [], ◌∷◌}
use mathlib.Core.Bool.{true, false}
use native.Mathlib.Omega.{arith}
use Rattle.answers.specs.Verdict.{Verdict, given, refused, refusal}
use Rattle.box_rules.specs.declared.Head.{Head}
use Rattle.box_rules.specs.Packets.{Packet, packets_in, packets, is_mine, mine}
use Rattle.box_rules.specs.Walk.{be16, be32, head_at, ones, barred, tagged, packet_at, whole_at, sized_at, marked_at, step_at, steps_in, steps_from, begins, walk, ending}
use Rattle.box_rules.specs.Numbers.{numbers, count, least, first_twice, missing_from, first_missing}
use Rattle.box_rules.specs.Box.{alike, agree, contents, total, numbered, joined_from, joined, assembled, assemble, box_bytes}
use Rattle.box_rules.specs.Order.{swap, counting, payloads, Makes, HandedOut}

-- a packet of LPTS, 1 in a segment of a length, with a number, an LBox, and its payload in front of what follows
abbrev pub packet : ℕ → ℕ → ℕ → List ℕ → List ℕ
packet len q lbox r =
    0xFF ∷ 0xEB ∷ 0x00 ∷ len ∷ 0x4A ∷ 0x50 ∷ 0x00 ∷ 0x01 ∷ 0 ∷ 0 ∷ 0 ∷ q ∷ 0 ∷ 0 ∷ 0 ∷ lbox ∷ 0x4C ∷ 0x50 ∷ 0x54 ∷ 0x53 ∷ r

-- a file of these segments
abbrev pub file : List ℕ → List ℕ
file r = 0xFF ∷ 0xD8 ∷ r

abbrev pub end : List ℕ
end = 0xFF ∷ 0xDA ∷ []

-- the answer for LPTS and an instance, in so much room
abbrev pub asked : List ℕ → ℕ → ℕ → Verdict ℕ
asked bytes instance room = box_bytes bytes 0x4C505453 instance room

abbrev pub no : ℕ → ℕ → Verdict ℕ
no number place = refused (refusal number place)

abbrev one : List ℕ
one = file (packet 21 1 11 (0xAA ∷ 0xBB ∷ 0xCC ∷ end))

abbrev two : ℕ → List ℕ
two q = file (packet 21 1 11 (0xAA ∷ 0xBB ∷ 0xCC ∷ packet 21 q 11 (0xAA ∷ 0xBB ∷ 0xCC ∷ end)))

-- "LPTS, 1 gives AA BB CC.", "LPTS, 2 gives 4." "both numbered 1: 6, place 1. Numbered 1 and 3: 7, place 2."
-- "LBox 8 with no payload is a box of length 0." File order doesn't matter; another type's packets don't either.
-- Room: one byte too few, and one more than is needed.
pub cases : (asked one 1 3 ≡ given (0xAA ∷ 0xBB ∷ 0xCC ∷ []))
    × (asked one 2 3 ≡ no 4 0)
    × (asked (two 1) 1 3 ≡ no 6 1)
    × (asked (two 3) 1 3 ≡ no 7 2)
    × (asked (file (packet 18 1 8 end)) 1 0 ≡ given [])
    × (asked (file (packet 19 3 12 (0xDD ∷ packet 20 1 12 (0xAA ∷ 0xBB ∷ packet 19 2 12 (0xCC ∷ end))))) 1 4 ≡ given (0xAA ∷ 0xBB ∷ 0xCC ∷ 0xDD ∷ []))
    × (box_bytes one 0x4C505454 1 3 ≡ no 4 0)
    × (asked one 1 2 ≡ no 9 3)
    × (asked one 1 4 ≡ given (0xAA ∷ 0xBB ∷ 0xCC ∷ []))
    × (asked (file (packet 18 0 8 end)) 1 0 ≡ no 7 1)
    × (asked (file (packet 18 0 8 (packet 18 0 8 end))) 1 0 ≡ no 6 0)
    × (asked (file (packet 21 1 10 (0xAA ∷ 0xBB ∷ 0xCC ∷ end))) 1 3 ≡ no 8 3)
    × (asked (file (packet 21 1 12 (0xAA ∷ 0xBB ∷ 0xCC ∷ end))) 1 3 ≡ no 8 3)
unfolding be16 be32 head_at ones barred tagged packet_at whole_at sized_at marked_at step_at steps_in steps_from begins walk ending packets_in packets is_mine mine numbers count least first_twice missing_from first_missing alike agree contents total numbered joined_from joined assembled assemble box_bytes
cases = (refl, refl, refl, refl, refl, refl, refl, refl, refl, refl, refl, refl, refl)

-- "1 to 3 over the whole walk (first met, 2 before 3 at one segment), then 4 to 9 by number": both faults are there
pub order : (asked (0xFF ∷ 0xD9 ∷ 0xFF ∷ 0x00 ∷ []) 1 3 ≡ no 1 0)
    × (asked (file (packet 19 1 7 [])) 1 3 ≡ no 2 2)
    × (asked (file (packet 18 1 8 (packet 18 1 7 (0xFF ∷ 0x00 ∷ [])))) 1 3 ≡ no 3 22)
    × (asked (file (packet 18 1 8 (0xFF ∷ 0x00 ∷ packet 18 1 7 end))) 1 3 ≡ no 2 22)
    × (asked (file (packet 18 1 8 (packet 18 1 7 end))) 2 3 ≡ no 3 22)
    × (asked (file (packet 19 1 9 (0xAA ∷ packet 19 1 10 (0xBB ∷ end)))) 2 3 ≡ no 4 0)
    × (asked (file (packet 19 1 9 (0xAA ∷ packet 19 1 10 (0xBB ∷ end)))) 1 3 ≡ no 5 0)
    × (asked (file (packet 18 2 8 (packet 18 2 8 end))) 1 3 ≡ no 6 2)
    × (asked (file (packet 21 2 10 (0xAA ∷ 0xBB ∷ 0xCC ∷ end))) 1 1 ≡ no 7 1)
    × (asked (file (packet 21 1 10 (0xAA ∷ 0xBB ∷ 0xCC ∷ end))) 1 1 ≡ no 8 3)
unfolding be16 be32 head_at ones barred tagged packet_at whole_at sized_at marked_at step_at steps_in steps_from begins walk ending packets_in packets is_mine mine numbers count least first_twice missing_from first_missing alike agree contents total numbered joined_from joined assembled assemble box_bytes
order = (refl, refl, refl, refl, refl, refl, refl, refl, refl, refl)

abbrev stating : ℕ → ℕ → Head
stating lbox heading = record { instance = 1; number = 1; stated = lbox; heading = heading; kind = 2 }

abbrev holding : ℕ → List ℕ → Packet
holding q payload = record { head = record { instance = 1; number = q; stated = 11; heading = 8; kind = 2 }; payload = payload }

-- "all with one LBox", "LBox-8", "payload total", "payloads joined", "1, 2, .. n"
pub words : (alike (stating 11 8) (stating 11 8) ≡ true)
    × (alike (stating 11 8) (stating 12 8) ≡ false)
    × (alike (stating 11 8) (stating 11 16) ≡ false)
    × (contents (stating 11 8) ≡ 3)
    × (contents (stating 8 8) ≡ 0)
    × (total (holding 2 (7 ∷ 8 ∷ []) ∷ holding 1 (9 ∷ []) ∷ []) ≡ 3)
    × (joined (holding 2 (7 ∷ 8 ∷ []) ∷ holding 1 (9 ∷ []) ∷ []) ≡ 9 ∷ 7 ∷ 8 ∷ [])
    × (payloads (holding 2 (7 ∷ 8 ∷ []) ∷ holding 1 (9 ∷ []) ∷ []) ≡ 7 ∷ 8 ∷ 9 ∷ [])
    × (counting 1 3 ≡ 1 ∷ 2 ∷ 3 ∷ [])
unfolding count least first_twice missing_from first_missing alike contents total numbered joined_from joined counting payloads
words = (refl, refl, refl, refl, refl, refl, refl, refl, refl)

-- "an ordering of all of them exists whose sequence numbers read 1, 2, .. n, all with one LBox, and whose payloads joined have LBox-8 bytes": 2 in front of 1, put in order
pub made : Makes (holding 2 (7 ∷ 8 ∷ []) ∷ holding 1 (9 ∷ []) ∷ []) (holding 1 (9 ∷ []) ∷ holding 2 (7 ∷ 8 ∷ []) ∷ []) (stating 11 8)
unfolding numbers counting agree alike payloads contents
made = record { all = swap; reads = refl; one = refl; fills = refl }

-- "(given room)": three bytes are not handed out into two places
pub no_room : (bytes : List ℕ) (kind instance : ℕ) → HandedOut bytes kind instance 2 (9 ∷ 7 ∷ 8 ∷ []) → ⊥
no_room bytes kind instance h = let short = h.fits in omega arith
