-- The rules of the walk (W1 to W9), worked out by hand on both sides of each edge, and computed. Each file begins FF D8, so that no place is 0 by chance.
use Prim.Native.Nat.{ℕ}
use mathlib.Core.Path.{◌≡◌, refl}
use mathlib.Core.List.{List, [], ◌∷◌}
use mathlib.Core.Bool.{true, false}
use Rattle.answers.specs.Verdict.{refusal}
use Rattle.std.specs.Prelude.{Ok, Err}
use Rattle.box_rules.specs.declared.Head.{Head}
use Rattle.box_rules.specs.declared.Step.{Step}
use Rattle.box_rules.specs.declared.Step.TheVariants.{End, Skip, Meet, Broken}
use Rattle.box_rules.specs.Walk.{be16, be32, head_at, ones, barred, tagged, packet_at, whole_at, sized_at, marked_at, step_at, steps_in, steps_from, begins, walk, ending}
use Rattle.box_rules.specs.Packets.{packets_in, packets, is_mine, mine}
use Rattle.box_rules.specs.Layout.{packed, other, two, four, headed, segment, inner, bytes_of, all_bytes, laid_out}

-- a file of these bytes behind FF D8, and what stands at its first segment
abbrev begun : List ℕ → List ℕ
begun r = 0xFF ∷ 0xD8 ∷ r

abbrev pub first : List ℕ → Step
first r = step_at (begun r) 2

abbrev no : ℕ → ℕ → Step
no number place = Broken (refusal number place)

-- a segment of a length and a packet's contents: instance 0102, number 03040506, an LBox of one byte, LPTS; and its head
abbrev contents : ℕ → List ℕ → List ℕ
contents lbox r = 0x4A ∷ 0x50 ∷ 0x01 ∷ 0x02 ∷ 0x03 ∷ 0x04 ∷ 0x05 ∷ 0x06 ∷ 0 ∷ 0 ∷ 0 ∷ lbox ∷ 0x4C ∷ 0x50 ∷ 0x54 ∷ 0x53 ∷ r

abbrev tagged_as : ℕ → ℕ → List ℕ → List ℕ
tagged_as len lbox r = 0xFF ∷ 0xEB ∷ 0 ∷ len ∷ contents lbox r

abbrev head : ℕ → Head
head lbox = record { instance = 0x0102; number = 0x03040506; stated = lbox; heading = 8; kind = 0x4C505453 }

-- "All numbers are big-endian."
pub numbers : (be16 (9 ∷ 0x12 ∷ 0x34 ∷ []) 1 ≡ 0x1234)
    × (be16 (0xFF ∷ 0xFF ∷ []) 0 ≡ 65535)
    × (be32 (9 ∷ 0x12 ∷ 0x34 ∷ 0x56 ∷ 0x78 ∷ []) 1 ≡ 0x12345678)
    × (be32 (0xFF ∷ 0xFF ∷ 0xFF ∷ 0xFF ∷ []) 0 ≡ 4294967295)
unfolding be16 be32
numbers = (refl, refl, refl, refl)

-- "A segment is FF, any further FF fill, a marker byte": no FF, fill to the end, fill in front of a marker. "The walk ends well at marker DA, needing nothing after it."
-- "Markers 00, 01, D0 to D9 .. give 2": both sides of each edge, each in front of the length 2.
pub marked : (first [] ≡ no 2 2)
    × (first (0xFF ∷ []) ≡ no 2 2)
    × (first (0xFF ∷ 0xFF ∷ 0xFF ∷ []) ≡ no 2 2)
    × (first (0x41 ∷ 0xFF ∷ 0xDA ∷ []) ≡ no 2 2)
    × (first (0xFE ∷ 0xE0 ∷ 0 ∷ 2 ∷ []) ≡ no 2 2)
    × (first (0xFF ∷ 0xFF ∷ 0xE0 ∷ 0 ∷ 2 ∷ []) ≡ Skip 7)
    × (first (0xFF ∷ 0xDA ∷ []) ≡ End)
    × (first (0xFF ∷ 0xFF ∷ 0xFF ∷ 0xDA ∷ 0 ∷ []) ≡ End)
    × (first (0xFF ∷ 0x00 ∷ 0 ∷ 2 ∷ []) ≡ no 2 2)
    × (first (0xFF ∷ 0x01 ∷ 0 ∷ 2 ∷ []) ≡ no 2 2)
    × (first (0xFF ∷ 0x02 ∷ 0 ∷ 2 ∷ []) ≡ Skip 6)
    × (first (0xFF ∷ 0xCF ∷ 0 ∷ 2 ∷ []) ≡ Skip 6)
    × (first (0xFF ∷ 0xD0 ∷ 0 ∷ 2 ∷ []) ≡ no 2 2)
    × (first (0xFF ∷ 0xD9 ∷ 0 ∷ 2 ∷ []) ≡ no 2 2)
    × (first (0xFF ∷ 0xDB ∷ 0 ∷ 2 ∷ []) ≡ Skip 6)
    × (first (0xFF ∷ 0xFE ∷ 0 ∷ 2 ∷ []) ≡ Skip 6)
unfolding be16 ones barred tagged whole_at sized_at marked_at step_at
marked = (refl, refl, refl, refl, refl, refl, refl, refl, refl, refl, refl, refl, refl, refl, refl, refl)

-- "a two-byte length that counts itself": cut length bytes, 0, 1, 2 and 3; a segment that ends exactly at the end, and one byte past it.
pub sized : (first (0xFF ∷ 0xE0 ∷ []) ≡ no 2 2)
    × (first (0xFF ∷ 0xE0 ∷ 0 ∷ []) ≡ no 2 2)
    × (first (0xFF ∷ 0xE0 ∷ 0 ∷ 0 ∷ 0 ∷ []) ≡ no 2 2)
    × (first (0xFF ∷ 0xE0 ∷ 0 ∷ 1 ∷ 0 ∷ []) ≡ no 2 2)
    × (first (0xFF ∷ 0xE0 ∷ 0 ∷ 2 ∷ []) ≡ Skip 6)
    × (first (0xFF ∷ 0xE0 ∷ 0 ∷ 3 ∷ []) ≡ no 2 2)
    × (first (0xFF ∷ 0xE0 ∷ 0 ∷ 3 ∷ 0 ∷ []) ≡ Skip 7)
    × (first (0xFF ∷ 0xE0 ∷ 2 ∷ 0 ∷ []) ≡ no 2 2)
    × (first (0xFF ∷ 0xFF ∷ 0xE0 ∷ 0 ∷ 1 ∷ []) ≡ no 2 2)
unfolding be16 ones barred tagged whole_at sized_at marked_at step_at
sized = (refl, refl, refl, refl, refl, refl, refl, refl, refl)

-- "A segment EB whose contents begin 4A 50 is a packet": EB of length 2 or 3 in front of 4A 50 is skipped, of 4 to 17 it gives 3; other tags and markers
-- are skipped. "LBox below 8, gives 3". 2 stands before 3 at one segment. With fill the place is the first FF.
pub met : (first (0xFF ∷ 0xEB ∷ 0 ∷ 2 ∷ 0x4A ∷ 0x50 ∷ []) ≡ Skip 6)
    × (first (0xFF ∷ 0xEB ∷ 0 ∷ 3 ∷ 0x4A ∷ 0x50 ∷ []) ≡ Skip 7)
    × (first (0xFF ∷ 0xEB ∷ 0 ∷ 4 ∷ 0x4A ∷ 0x50 ∷ []) ≡ no 3 2)
    × (first (0xFF ∷ 0xEB ∷ 0 ∷ 4 ∷ 0x4A ∷ 0x51 ∷ []) ≡ Skip 8)
    × (first (0xFF ∷ 0xEB ∷ 0 ∷ 4 ∷ 0x4B ∷ 0x50 ∷ []) ≡ Skip 8)
    × (first (0xFF ∷ 0xEC ∷ 0 ∷ 4 ∷ 0x4A ∷ 0x50 ∷ []) ≡ Skip 8)
    × (first (0xFF ∷ 0xEC ∷ 0 ∷ 18 ∷ contents 8 []) ≡ Skip 22)
    × (first (0xFF ∷ 0xEB ∷ 0 ∷ 5 ∷ 0x4A ∷ 0x50 ∷ []) ≡ no 2 2)
    × (first (tagged_as 17 8 []) ≡ no 3 2)
    × (first (tagged_as 18 8 []) ≡ Meet (head 8) 22 0 22)
    × (first (tagged_as 18 7 []) ≡ no 3 2)
    × (first (tagged_as 18 0 []) ≡ no 3 2)
    × (first (tagged_as 19 8 []) ≡ no 2 2)
    × (first (tagged_as 19 7 []) ≡ no 2 2)
    × (first (tagged_as 21 11 (0xAA ∷ 0xBB ∷ 0xCC ∷ [])) ≡ Meet (head 11) 22 3 25)
    × (first (0xFF ∷ 0xFF ∷ tagged_as 20 9 (0xAA ∷ 0xBB ∷ [])) ≡ Meet (head 9) 24 2 26)
    × (first (0xFF ∷ 0xFF ∷ tagged_as 18 7 []) ≡ no 3 2)
unfolding be16 be32 head_at ones barred tagged packet_at whole_at sized_at marked_at step_at
met = (refl, refl, refl, refl, refl, refl, refl, refl, refl, refl, refl, refl, refl, refl, refl, refl, refl)

-- "length (2), 4A 50, instance (2), sequence number (4), LBox (4), type (4), payload": each byte of a head of its own
pub heads : first (0xFF ∷ 0xEB ∷ 0 ∷ 18 ∷ 0x4A ∷ 0x50 ∷ 0xA1 ∷ 0xA2 ∷ 0xB1 ∷ 0xB2 ∷ 0xB3 ∷ 0xB4 ∷ 0xC1 ∷ 0xC2 ∷ 0xC3 ∷ 0xC4 ∷ 0xD1 ∷ 0xD2 ∷ 0xD3 ∷ 0xD4 ∷ [])
    ≡ Meet (record { instance = 0xA1A2; number = 0xB1B2B3B4; stated = 0xC1C2C3C4; heading = 8; kind = 0xD1D2D3D4 }) 22 0 22
unfolding be16 be32 head_at ones barred tagged packet_at whole_at sized_at marked_at step_at
heads = refl

-- "The walk starts after FF D8"; 1, "does not begin FF D8"; "needing nothing after it"; "no SOS": where the next segment was to begin.
-- A broken head of any type and instance gives 3; what is met first is told.
pub ended : (ending (walk []) ≡ Err (refusal 1 0))
    × (ending (walk (0xFF ∷ [])) ≡ Err (refusal 1 0))
    × (ending (walk (0xFF ∷ 0xD9 ∷ 0xFF ∷ 0xDA ∷ [])) ≡ Err (refusal 1 0))
    × (ending (walk (0xFE ∷ 0xD8 ∷ 0xFF ∷ 0xDA ∷ [])) ≡ Err (refusal 1 0))
    × (ending (walk (begun [])) ≡ Err (refusal 2 2))
    × (ending (walk (begun (0xFF ∷ 0xDA ∷ []))) ≡ Ok 0)
    × (ending (walk (begun (0xFF ∷ 0xDA ∷ 0x00 ∷ tagged_as 18 7 []))) ≡ Ok 0)
    × (ending (walk (begun (0xFF ∷ 0xE0 ∷ 0 ∷ 2 ∷ []))) ≡ Err (refusal 2 6))
    × (ending (walk (begun (0xFF ∷ 0xE0 ∷ 0 ∷ 2 ∷ tagged_as 18 7 (0xFF ∷ 0xDA ∷ [])))) ≡ Err (refusal 3 6))
    × (ending (walk (begun (tagged_as 18 7 (0xFF ∷ 0x00 ∷ [])))) ≡ Err (refusal 3 2))
    × (ending (walk (begun (tagged_as 18 8 (0xFF ∷ 0x00 ∷ tagged_as 18 7 [])))) ≡ Err (refusal 2 22))
unfolding be16 be32 head_at ones barred tagged packet_at whole_at sized_at marked_at step_at steps_in steps_from begins walk ending
ended = (refl, refl, refl, refl, refl, refl, refl, refl, refl, refl, refl)

-- a segment that is no packet, two packets, of which one has fill, and one behind DA, which is not met
abbrev several : List ℕ
several = begun
    (0xFF ∷ 0xE0 ∷ 0 ∷ 3 ∷ 0x77
    ∷ tagged_as 20 10 (0xAA ∷ 0xBB ∷ 0xFF ∷ tagged_as 19 9 (0xCC ∷ 0xFF ∷ 0xDA ∷ tagged_as 18 8 (0xFF ∷ 0xDA ∷ []))))

pub steps : walk several ≡ Skip 7 ∷ Meet (head 10) 27 2 29 ∷ Meet (head 9) 50 1 51 ∷ End ∷ []
unfolding be16 be32 head_at ones barred tagged packet_at whole_at sized_at marked_at step_at steps_in steps_from begins walk
steps = refl

pub those : packets several ≡ record { head = head 10; payload = 0xAA ∷ 0xBB ∷ [] } ∷ record { head = head 9; payload = 0xCC ∷ [] } ∷ []
unfolding be16 be32 head_at ones barred tagged packet_at whole_at sized_at marked_at step_at steps_in steps_from begins walk packets_in packets
those = refl

-- the bytes of a written file: a segment with fill, case a's packet, fill in front of DA, and a byte behind it
abbrev lpts : Head
lpts = record { instance = 1; number = 1; stated = 11; heading = 8; kind = 0x4C505453 }

pub written : laid_out (other 1 0xE0 (7 ∷ []) ∷ packed 0 (record { head = lpts; payload = 0xAA ∷ 0xBB ∷ 0xCC ∷ [] }) ∷ []) 2 (9 ∷ [])
    ≡ 0xFF ∷ 0xD8 ∷ 0xFF ∷ 0xFF ∷ 0xE0 ∷ 0 ∷ 3 ∷ 7 ∷ 0xFF ∷ 0xEB ∷ 0x00 ∷ 0x15 ∷ 0x4A ∷ 0x50
    ∷ 0x00 ∷ 0x01 ∷ 0x00 ∷ 0x00 ∷ 0x00 ∷ 0x01 ∷ 0x00 ∷ 0x00 ∷ 0x00 ∷ 0x0B
    ∷ 0x4C ∷ 0x50 ∷ 0x54 ∷ 0x53 ∷ 0xAA ∷ 0xBB ∷ 0xCC ∷ 0xFF ∷ 0xFF ∷ 0xFF ∷ 0xDA ∷ 9 ∷ []
unfolding two four headed segment inner bytes_of all_bytes laid_out
written = refl

abbrev of : ℕ → ℕ → Head
of kind instance = record { instance = instance; number = 1; stated = 8; heading = 8; kind = kind }

-- "For an asked type and instance, take its n packets": another type, another instance, and all of its own, in file order
pub own : (is_mine 5 7 (of 5 7) ≡ true)
    × (is_mine 5 7 (of 5 8) ≡ false)
    × (is_mine 5 7 (of 5 6) ≡ false)
    × (is_mine 5 7 (of 6 7) ≡ false)
    × (mine 5 7
    (record { head = of 5 7; payload = 1 ∷ [] } ∷ record { head = of 5 8; payload = 2 ∷ [] } ∷ record { head = of 6 7; payload = 3 ∷ [] } ∷ record { head = of 5 7; payload = 4 ∷ [] } ∷ [])
    ≡ record { head = of 5 7; payload = 1 ∷ [] } ∷ record { head = of 5 7; payload = 4 ∷ [] } ∷ [])
unfolding is_mine mine
own = (refl, refl, refl, refl, refl)
