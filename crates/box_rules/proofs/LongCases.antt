-- Long boxes (P25, A5), worked out by hand on both sides of each edge, and computed: a head, a segment, a box, the listing, and the bytes that a writer lays out.
use Prim.Native.Nat.{ℕ}
use mathlib.Core.Path.{◌≡◌, refl}
use mathlib.Core.Logic.{inl, inr}
use mathlib.Core.List.{List, [], ◌∷◌, ◌++◌}
use native.Mathlib.Omega.{arith}
use Rattle.answers.specs.Verdict.{Verdict, given, refusal}
use Rattle.box_rules.specs.declared.Head.{Head}
use Rattle.box_rules.specs.declared.Step.{Step}
use Rattle.box_rules.specs.declared.Step.TheVariants.{Meet, Broken}
use Rattle.box_rules.specs.Walk.{be16, be32, be64, head_at, long_head_at, ones, barred, tagged, packet_at, whole_at, sized_at, marked_at, step_at, steps_in, steps_from, begins, walk, ending}
use Rattle.box_rules.specs.Packets.{Packet, packets_in, packets, is_mine, mine}
use Rattle.box_rules.specs.Numbers.{numbers, count, least, first_twice, missing_from, first_missing}
use Rattle.box_rules.specs.Box.{alike, agree, contents, total, numbered, joined_from, joined, assembled, assemble, box_bytes}
use Rattle.box_rules.specs.Text.{line, lines, header, answer, listing, dec_in, dec, glyph, hex}
use Rattle.box_rules.proofs.WalkCases.{first}
use Rattle.box_rules.proofs.BoxCases.{packet, file, end, asked, no}
use Rattle.box_rules.specs.Layout.{packed, other, two, four, eight, headed, segment, inner, bytes_of, all_bytes, laid_out, Boxed, longer, lengthened, InLongForm, empty, longer_there, same_there}

-- eight bytes behind the type of a packet: so often 2^32, and so much more
abbrev lasting : ℕ → ℕ → List ℕ → List ℕ
lasting high low r = 0 ∷ 0 ∷ 0 ∷ high ∷ 0 ∷ 0 ∷ 0 ∷ low ∷ r

-- a packet with LBox 1 and that length
abbrev long : ℕ → ℕ → ℕ → ℕ → List ℕ → List ℕ
long len q high low r = packet len q 1 (lasting high low r)

-- the largest length of eight bytes
abbrev largest : List ℕ → List ℕ
largest r = 0xFF ∷ 0xFF ∷ 0xFF ∷ 0xFF ∷ 0xFF ∷ 0xFF ∷ 0xFF ∷ 0xFF ∷ r

-- the answer for LPTS and an instance, in so much room, of a file of these segments; and a refusal at its first one
abbrev box : List ℕ → ℕ → ℕ → Verdict ℕ
box segments instance room = asked (file segments) instance room

abbrev broken : ℕ → Step
broken number = Broken (refusal number 2)

-- packet 3 of LPTS, 1
abbrev third : ℕ → ℕ → Head
third stated heading = record { instance = 1; number = 3; stated = stated; heading = heading; kind = 0x4C505453 }

-- "All numbers are big-endian."
pub eight_bytes : (be64 (9 ∷ 0x01 ∷ 0x23 ∷ 0x45 ∷ 0x67 ∷ 0x89 ∷ 0xAB ∷ 0xCD ∷ 0xEF ∷ []) 1 ≡ 0x0123456789ABCDEF) × (be64 (largest []) 0 ≡ 18446744073709551615)
unfolding be16 be32 be64
eight_bytes = (refl, refl)

-- "LBox 1 and, after the type, an eight-byte length": each byte of a head of its own; "the packet head is eight bytes longer"
pub heads : first (0xFF ∷ 0xEB ∷ 0 ∷ 27 ∷ 0x4A ∷ 0x50 ∷ 0xA1 ∷ 0xA2 ∷ 0xB1 ∷ 0xB2 ∷ 0xB3 ∷ 0xB4 ∷ 0 ∷ 0 ∷ 0 ∷ 1 ∷ 0xD1 ∷ 0xD2 ∷ 0xD3 ∷ 0xD4
    ∷ 0xE1 ∷ 0xE2 ∷ 0xE3 ∷ 0xE4 ∷ 0xE5 ∷ 0xE6 ∷ 0xE7 ∷ 0xE8 ∷ 0xAA ∷ [])
    ≡ Meet (record { instance = 0xA1A2; number = 0xB1B2B3B4; stated = 0xE1E2E3E4E5E6E7E8; heading = 16; kind = 0xD1D2D3D4 }) 30 1 31
unfolding be16 be32 be64 head_at long_head_at ones barred tagged packet_at whole_at sized_at marked_at step_at
heads = refl

-- "a segment length below 26 with it, or a long length below 16" gives 3, below 18 in any case; 2 stands before 3 at one segment; with fill the place is the first FF
pub lengths : (first (long 26 3 0 16 []) ≡ Meet (third 16 16) 30 0 30)
    × (first (long 25 3 0 16 []) ≡ broken 3)
    × (first (long 18 3 0 16 []) ≡ broken 3)
    × (first (long 17 3 0 16 []) ≡ broken 3)
    × (first (long 26 3 0 15 []) ≡ broken 3)
    × (first (long 26 3 0 1 []) ≡ broken 3)
    × (first (long 26 3 0 0 []) ≡ broken 3)
    × (first (long 26 3 1 0 []) ≡ Meet (third 4294967296 16) 30 0 30)
    × (first (long 26 3 1 15 []) ≡ Meet (third 4294967311 16) 30 0 30)
    × (first (packet 26 3 1 (largest [])) ≡ Meet (third 18446744073709551615 16) 30 0 30)
    × (first (long 29 3 0 19 (0xAA ∷ 0xBB ∷ 0xCC ∷ [])) ≡ Meet (third 19 16) 30 3 33)
    × (first (long 27 3 0 17 []) ≡ broken 2)
    × (first (long 27 3 0 15 []) ≡ broken 2)
    × (first (packet 18 3 1 []) ≡ broken 3)
    × (first (0xFF ∷ 0xFF ∷ long 27 3 0 20 (0xAA ∷ [])) ≡ Meet (third 20 16) 32 1 33)
    × (first (0xFF ∷ 0xFF ∷ long 25 3 0 16 (0xAA ∷ [])) ≡ broken 3)
unfolding be16 be32 be64 head_at long_head_at ones barred tagged packet_at whole_at sized_at marked_at step_at
lengths = (refl, refl, refl, refl, refl, refl, refl, refl, refl, refl, refl, refl, refl, refl, refl, refl)

-- the form is told by LBox alone: 0 and 2 to 7 give 3 whatever stands behind the type, and from 8 on it is payload; 257 is not 1
pub forms : (first (packet 26 3 0 (lasting 0 16 [])) ≡ broken 3)
    × (first (packet 26 3 2 (lasting 0 16 [])) ≡ broken 3)
    × (first (packet 26 3 7 (lasting 0 16 [])) ≡ broken 3)
    × (first (packet 26 3 8 (lasting 0 16 [])) ≡ Meet (third 8 8) 22 8 30)
    × (first (packet 26 3 16 (lasting 0 16 [])) ≡ Meet (third 16 8) 22 8 30)
    × (first (0xFF ∷ 0xEB ∷ 0 ∷ 18 ∷ 0x4A ∷ 0x50 ∷ 0 ∷ 1 ∷ 0 ∷ 0 ∷ 0 ∷ 3 ∷ 0 ∷ 0 ∷ 1 ∷ 1 ∷ 0x4C ∷ 0x50 ∷ 0x54 ∷ 0x53 ∷ []) ≡ Meet (third 257 8) 22 0 22)
unfolding be16 be32 be64 head_at long_head_at ones barred tagged packet_at whole_at sized_at marked_at step_at
forms = (refl, refl, refl, refl, refl, refl)

-- a stranger between: LPTS, 2, in the short form
abbrev stranger : List ℕ → List ℕ
stranger r = 0xFF ∷ 0xEB ∷ 0 ∷ 19 ∷ 0x4A ∷ 0x50 ∷ 0 ∷ 2 ∷ 0 ∷ 0 ∷ 0 ∷ 1 ∷ 0 ∷ 0 ∷ 0 ∷ 9 ∷ 0x4C ∷ 0x50 ∷ 0x54 ∷ 0x53 ∷ 0xDD ∷ r

abbrev three : Verdict ℕ
three = given (0xAA ∷ 0xBB ∷ 0xCC ∷ [])

-- a long box in one packet and in two, out of order, with a stranger of the other form; the same bytes in the short form. "the stated length less the box head":
-- 16 with no payload is a box of length 0; 17 with none, and 2^32 or 2^64 - 1 with any, is 8 with the total. Room.
pub boxes : (box (long 29 1 0 19 (0xAA ∷ 0xBB ∷ 0xCC ∷ end)) 1 3 ≡ three)
    × (box (packet 21 1 11 (0xAA ∷ 0xBB ∷ 0xCC ∷ end)) 1 3 ≡ three)
    × (box (long 28 2 0 19 (0xBB ∷ 0xCC ∷ stranger (long 27 1 0 19 (0xAA ∷ end)))) 1 3 ≡ three)
    × (box (packet 20 2 11 (0xBB ∷ 0xCC ∷ stranger (packet 19 1 11 (0xAA ∷ end)))) 1 3 ≡ three)
    × (box (long 28 2 0 19 (0xBB ∷ 0xCC ∷ stranger (long 27 1 0 19 (0xAA ∷ end)))) 2 3 ≡ given (0xDD ∷ []))
    × (box (long 26 1 0 16 end) 1 0 ≡ given [])
    × (box (long 26 1 0 17 end) 1 0 ≡ no 8 0)
    × (box (long 27 1 0 16 (0xAA ∷ end)) 1 1 ≡ no 8 1)
    × (box (long 27 1 1 17 (0xAA ∷ end)) 1 1 ≡ no 8 1)
    × (box (packet 28 1 1 (largest (0xAA ∷ 0xBB ∷ end))) 1 9 ≡ no 8 2)
    × (box (packet 26 1 1 (largest end)) 1 9 ≡ no 8 0)
    × (box (long 29 1 0 19 (0xAA ∷ 0xBB ∷ 0xCC ∷ end)) 1 2 ≡ no 9 3)
unfolding be16 be32 be64 head_at long_head_at ones barred tagged packet_at whole_at sized_at marked_at step_at steps_in steps_from begins walk ending packets_in packets is_mine mine numbers count least first_twice missing_from first_missing alike agree contents total numbered joined_from joined assembled assemble box_bytes
boxes = (refl, refl, refl, refl, refl, refl, refl, refl, refl, refl, refl, refl)

-- "Packets of one box must agree on the length and on which form they use": "5 also covers mixed forms", whether the stated numbers are one or the contents' lengths are;
-- high bytes count. 3 is met by whoever asks; 5 stands before 6, 7, 8.
pub disagreeing : (box (long 27 1 0 18 (0xAA ∷ packet 19 2 18 (0xBB ∷ end))) 1 9 ≡ no 5 0)
    × (box (packet 19 2 18 (0xBB ∷ long 27 1 0 18 (0xAA ∷ end))) 1 9 ≡ no 5 0)
    × (box (long 27 1 0 18 (0xAA ∷ packet 19 2 10 (0xBB ∷ end))) 1 9 ≡ no 5 0)
    × (box (long 27 1 0 18 (0xAA ∷ long 27 2 0 19 (0xBB ∷ end))) 1 9 ≡ no 5 0)
    × (box (long 27 1 0 18 (0xAA ∷ long 27 2 1 18 (0xBB ∷ end))) 1 9 ≡ no 5 0)
    × (box (long 27 3 0 18 (0xAA ∷ packet 19 3 18 (0xBB ∷ end))) 1 9 ≡ no 5 0)
    × (box (stranger (long 25 1 0 16 (0xAA ∷ end))) 2 9 ≡ no 3 23)
    × (box (stranger (long 26 1 0 15 end)) 2 9 ≡ no 3 23)
    × (box (stranger (long 26 1 0 16 end)) 2 9 ≡ given (0xDD ∷ []))
unfolding be16 be32 be64 head_at long_head_at ones barred tagged packet_at whole_at sized_at marked_at step_at steps_in steps_from begins walk ending packets_in packets is_mine mine numbers count least first_twice missing_from first_missing alike agree contents total numbered joined_from joined assembled assemble box_bytes
disagreeing = (refl, refl, refl, refl, refl, refl, refl, refl, refl)

-- `bytes` without the longer head: `1 1 3 4C505453` and `1 2 0 4C505453`, between the header and `answer 0 0`
pub listed : listing (file (long 29 1 0 99 (0xAA ∷ 0xBB ∷ 0xCC ∷ long 26 2 0 16 end)))
    ≡ header
    ++ (49 ∷ 32 ∷ 49 ∷ 32 ∷ 51 ∷ 32 ∷ 52 ∷ 67 ∷ 53 ∷ 48 ∷ 53 ∷ 52 ∷ 53 ∷ 51 ∷ 10 ∷ [])
    ++ (49 ∷ 32 ∷ 50 ∷ 32 ∷ 48 ∷ 32 ∷ 52 ∷ 67 ∷ 53 ∷ 48 ∷ 53 ∷ 52 ∷ 53 ∷ 51 ∷ 10 ∷ [])
    ++ (97 ∷ 110 ∷ 115 ∷ 119 ∷ 101 ∷ 114 ∷ 32 ∷ 48 ∷ 32 ∷ 48 ∷ 10 ∷ [])
unfolding be16 be32 be64 head_at long_head_at ones barred tagged packet_at whole_at sized_at marked_at step_at steps_in steps_from begins walk ending packets_in packets line lines header answer listing dec_in dec glyph hex
listed = refl

-- the bytes of a packet in the long form, as a writer lays them out
pub written : laid_out (packed 0 (record { head = record { instance = 1; number = 2; stated = 0x0102030405060708; heading = 16; kind = 0x4C505453 }; payload = 0xAA ∷ [] }) ∷ []) 0 []
    ≡ 0xFF ∷ 0xD8 ∷ 0xFF ∷ 0xEB ∷ 0x00 ∷ 0x1B ∷ 0x4A ∷ 0x50 ∷ 0x00 ∷ 0x01 ∷ 0x00 ∷ 0x00 ∷ 0x00 ∷ 0x02 ∷ 0x00 ∷ 0x00 ∷ 0x00 ∷ 0x01 ∷ 0x4C ∷ 0x50 ∷ 0x54 ∷ 0x53
    ∷ 0x01 ∷ 0x02 ∷ 0x03 ∷ 0x04 ∷ 0x05 ∷ 0x06 ∷ 0x07 ∷ 0x08 ∷ 0xAA ∷ 0xFF ∷ 0xDA ∷ []
unfolding two four eight headed segment inner bytes_of all_bytes laid_out
written = refl

-- a packet whose numbers all differ, in the short form, of the length 22; and in the long form
abbrev holding : ℕ → ℕ → Packet
holding stated heading = record { head = record { instance = 7; number = 12; stated = stated; heading = heading; kind = 5 }; payload = 13 ∷ 14 ∷ [] }

abbrev stranger_of : ℕ → ℕ → ℕ → Packet
stranger_of kind instance heading = record { head = record { instance = instance; number = 12; stated = 30; heading = heading; kind = kind }; payload = [] }

pub lengthens : lengthened (holding 22 8) ≡ holding 30 16
unfolding longer lengthened
lengthens = refl

-- "LBox 8 with no payload is a box of length 0", and so is the long length 16: both are sound
pub sound_at_least : Boxed (holding 8 8) × Boxed (holding 16 16)
sound_at_least = (record { form = inl refl; least = omega arith }, record { form = inr refl; least = omega arith })

-- with strangers between: another instance in the short form, another type in the long form, and no packet
pub in_both_forms : InLongForm 5 7
    (packed 0 (holding 22 8) ∷ packed 0 (stranger_of 5 8 8) ∷ packed 0 (stranger_of 6 7 16) ∷ other 0 0xFE [] ∷ packed 1 (holding 22 8) ∷ [])
    (packed 2 (holding 30 16) ∷ packed 0 (stranger_of 5 8 8) ∷ packed 0 (stranger_of 6 7 16) ∷ other 0 0xFE [] ∷ packed 0 (holding 30 16) ∷ [])
unfolding longer lengthened
in_both_forms = longer_there 0 2 refl refl refl
    (same_there {x = packed 0 (stranger_of 5 8 8)} (λ k i. omega arith)
    (same_there {x = packed 0 (stranger_of 6 7 16)} (λ k i. omega arith)
    (same_there {x = other 0 0xFE []} tt
    (longer_there 1 0 refl refl refl empty))))
