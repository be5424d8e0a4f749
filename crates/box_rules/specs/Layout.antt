-- W10, P24 and P26: a file as a writer sees it, the bytes of a number, a segment, a packet and a file; when two files are the same for a type and instance, or in two forms. Nothing here knows of the walk.
use Rattle.std.specs.Prelude.{ℕ, suc, ◌+◌, ◌/◌, ◌%◌, ◌≤◌, ◌<◌, ◌≡◌, ◌⊎◌, List, [], ◌∷◌, ◌++◌, cond, length, replicate, eqb}
use Rattle.box_rules.specs.declared.Head.{Head}
use Rattle.box_rules.specs.Packets.{Packet}

-- W10: what a file is made of: packets and other segments, each with fill bytes in front of its marker
pub data Part : Type 0 where
  packed : (fill : ℕ) → Packet → Part
  other : (fill marker : ℕ) → List ℕ → Part

-- W2: "All numbers are big-endian."
unfoldable pub two : ℕ → List ℕ
two n = n / 256 ∷ n % 256 ∷ []

-- W2: the same in four bytes
unfoldable pub four : ℕ → List ℕ
four n = two (n / 65536) ++ two (n % 65536)

-- W2: the same in eight bytes
unfoldable pub eight : ℕ → List ℕ
eight n = four (n / 4294967296) ++ four (n % 4294967296)

-- W4: "A segment is FF, any further FF fill, a marker byte, a two-byte length that counts itself, contents."
unfoldable pub segment : ℕ → ℕ → List ℕ → List ℕ
segment fill marker contents = replicate (suc fill) 0xFF ++ (marker ∷ two (length contents + 2) ++ contents)

-- P1: "4A 50, instance (2), sequence number (4), LBox (4), type (4)", and what follows
unfoldable pub headed : Head → ℕ → List ℕ → List ℕ
headed h lbox rest = 0x4A ∷ 0x50 ∷ two h.instance ++ four h.number ++ four lbox ++ four h.kind ++ rest

-- P1, P25: the payload follows the type; in the long form "LBox 1 and, after the type, an eight-byte length"
unfoldable pub inner : Packet → List ℕ
inner p =
    cond (eqb p.head.heading 16)
    (headed p.head 1 (eight p.head.stated ++ p.payload))
    (headed p.head p.head.stated p.payload)

-- W10: the bytes of a part; the marker of a packet is EB
unfoldable pub bytes_of : Part → List ℕ
bytes_of (packed fill p) = segment fill 0xEB (inner p)
bytes_of (other fill marker contents) = segment fill marker contents

-- W10: the parts one after another
unfoldable pub all_bytes : List Part → List ℕ
all_bytes [] = []
all_bytes (x ∷ r) = bytes_of x ++ all_bytes r

-- W10: FF D8, the segments, FF with any fill, DA, and anything behind it
unfoldable pub laid_out : List Part → ℕ → List ℕ → List ℕ
laid_out parts fill behind = (0xFF ∷ 0xD8 ∷ []) ++ (all_bytes parts ++ (replicate (suc fill) 0xFF ++ (0xDA ∷ behind)))

-- W10: the packets among them, in file order
unfoldable pub packets_of : List Part → List Packet
packets_of [] = []
packets_of (packed fill p ∷ r) = p ∷ packets_of r
packets_of (other fill marker contents ∷ r) = packets_of r

-- W10: a packet of the short form or of the long one, whose stated length holds the head of the box
pub record Boxed (p : Packet) : Type 0 where
  pub form : (p.head.heading ≡ 8) ⊎ (p.head.heading ≡ 16)
  pub least : p.head.heading ≤ p.head.stated

-- W10: a segment whose marker carries a length (02 to CF, DB to FE) and that is no packet
pub record Plain (marker : ℕ) (contents : List ℕ) : Type 0 where
  pub low : 2 ≤ marker
  pub high : marker < 0xFF
  pub carries : (marker < 0xD0) ⊎ (0xDA < marker)
  pub untagged : marker ≡ 0xEB → (r : List ℕ) → contents ≡ 0x4A ∷ 0x50 ∷ r → ⊥

-- W10: what makes a part sound
abbrev pub Sound : Part → Type 0
Sound (packed fill p) = Boxed p
Sound (other fill marker contents) = Plain marker contents

-- W10: every part is sound
abbrev pub AllSound : List Part → Type 0
AllSound [] = Unit
AllSound (x ∷ r) = Sound x × AllSound r

-- ---- two files that are one picture for a type and instance

-- P24: a segment that is no packet of this type and instance
abbrev pub Stranger : ℕ → ℕ → Part → Type 0
Stranger kind instance (packed fill p) = p.head.kind ≡ kind → p.head.instance ≡ instance → ⊥
Stranger kind instance (other fill marker contents) = Unit

-- P24: "Other boxes may differ in count, content and position": two files have the same packets of this type and instance, each behind any fill,
-- and any strangers; two segments may stand the other way round, since "File order doesn't matter."
pub data SameFor (kind instance : ℕ) : List Part → List Part → Type 0 where
  empty : SameFor kind instance [] []
  shared : {p : Packet} {a b : List Part} (fill fill' : ℕ) → SameFor kind instance a b → SameFor kind instance (packed fill p ∷ a) (packed fill' p ∷ b)
  here : {x : Part} {a b : List Part} → Stranger kind instance x → SameFor kind instance a b → SameFor kind instance (x ∷ a) b
  there : {x : Part} {a b : List Part} → Stranger kind instance x → SameFor kind instance a b → SameFor kind instance a (x ∷ b)
  exchanged : {x y : Part} {a : List Part} → SameFor kind instance (x ∷ (y ∷ a)) (y ∷ (x ∷ a))
  through : {a b c : List Part} → SameFor kind instance a b → SameFor kind instance b c → SameFor kind instance a c

-- ---- two files that have a box in two forms

-- P26: the long form of a head in the short one: "the length counts sixteen bytes of box head", where LBox counts eight
unfoldable pub longer : Head → Head
longer h = record { instance = h.instance; number = h.number; stated = h.stated + 8; heading = 16; kind = h.kind }

-- P26: a packet with the same payload behind it
unfoldable pub lengthened : Packet → Packet
lengthened p = record { head = longer p.head; payload = p.payload }

-- P26: every packet of this type and instance is in the short form here and in the long form there; strangers are what they are
pub data InLongForm (kind instance : ℕ) : List Part → List Part → Type 0 where
  empty : InLongForm kind instance [] []
  longer_there : {p : Packet} {a b : List Part} (fill fill' : ℕ) → p.head.kind ≡ kind → p.head.instance ≡ instance → p.head.heading ≡ 8
      → InLongForm kind instance a b → InLongForm kind instance (packed fill p ∷ a) (packed fill' (lengthened p) ∷ b)
  same_there : {x : Part} {a b : List Part} → Stranger kind instance x → InLongForm kind instance a b → InLongForm kind instance (x ∷ a) (x ∷ b)
