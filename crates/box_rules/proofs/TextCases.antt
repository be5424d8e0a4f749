-- The listing of the picture in case a (S1), and of files on both sides of each rule, worked out by hand and computed. Texts are in ASCII, with the words above them.
use Prim.Native.Nat.{ℕ}
use mathlib.Core.Path.{◌≡◌, refl}
use mathlib.Core.List.{List, [], ◌∷◌, ◌++◌}
use lib.ListN.{length}
use native.Mathlib.Omega.{arith}
use Rattle.answers.specs.Verdict.{given, refused, refusal}
use Rattle.box_rules.specs.Walk.{be16, be32, head_at, ones, barred, tagged, packet_at, whole_at, sized_at, marked_at, step_at, steps_in, steps_from, begins, walk, ending}
use Rattle.box_rules.specs.Packets.{packets_in, packets}
use Rattle.box_rules.proofs.Decimal.{dec_small, dec_more}
use Rattle.box_rules.specs.Text.{line, lines, header, answer, text_after, listing, list_packets, dec_in, dec, glyph, hex}

-- "instance number bytes type", with its LF
abbrev first : List ℕ
first = 105 ∷ 110 ∷ 115 ∷ 116 ∷ 97 ∷ 110 ∷ 99 ∷ 101 ∷ 32 ∷ 110 ∷ 117 ∷ 109 ∷ 98 ∷ 101 ∷ 114 ∷ 32 ∷ 98 ∷ 121 ∷ 116 ∷ 101 ∷ 115 ∷ 32 ∷ 116 ∷ 121 ∷ 112 ∷ 101 ∷ 10 ∷ []

-- "answer 0 0", with its LF
abbrev well : List ℕ
well = 97 ∷ 110 ∷ 115 ∷ 119 ∷ 101 ∷ 114 ∷ 32 ∷ 48 ∷ 32 ∷ 48 ∷ 10 ∷ []

pub picture : List ℕ
picture =
    0xFF ∷ 0xD8 ∷ 0xFF ∷ 0xEB ∷ 0x00 ∷ 0x15 ∷ 0x4A ∷ 0x50 ∷ 0x00 ∷ 0x01 ∷ 0 ∷ 0 ∷ 0 ∷ 1 ∷ 0 ∷ 0 ∷ 0 ∷ 0x0B ∷ 0x4C ∷ 0x50 ∷ 0x54 ∷ 0x53 ∷ 0xAA ∷ 0xBB ∷ 0xCC ∷ 0xFF ∷ 0xDA ∷ []

-- "1 1 3 4C505453", "answer 0 0"
pub case_a : listing picture ≡ first ++ (49 ∷ 32 ∷ 49 ∷ 32 ∷ 51 ∷ 32 ∷ 52 ∷ 67 ∷ 53 ∷ 48 ∷ 53 ∷ 52 ∷ 53 ∷ 51 ∷ 10 ∷ []) ++ well
unfolding picture be16 be32 head_at ones barred tagged packet_at whole_at sized_at marked_at step_at steps_in steps_from begins walk ending packets_in packets line lines header answer listing dec_in dec glyph hex
case_a = refl

-- `answer 1 0`
pub empty_file : listing [] ≡ first ++ (97 ∷ 110 ∷ 115 ∷ 119 ∷ 101 ∷ 114 ∷ 32 ∷ 49 ∷ 32 ∷ 48 ∷ 10 ∷ [])
unfolding begins walk ending packets_in packets line lines header answer listing dec_in dec
empty_file = refl

-- a packet with instance 0201, a number of two bytes, 2 bytes of payload, LBox 0000FF00 and type ABCDEF01
abbrev packet : ℕ → ℕ → List ℕ → List ℕ
packet high low r =
    0xFF ∷ 0xEB ∷ 0 ∷ 20 ∷ 0x4A ∷ 0x50 ∷ 0x02 ∷ 0x01 ∷ 0 ∷ 0 ∷ high ∷ low ∷ 0 ∷ 0 ∷ 0xFF ∷ 0x00 ∷ 0xAB ∷ 0xCD ∷ 0xEF ∷ 0x01 ∷ 7 ∷ 7 ∷ r

-- "Lines stand in file order", "`bytes` the packet's own payload", whatever its LBox: `513 300 2 ABCDEF01` and `513 10 2 ABCDEF01`
pub listed : listing (0xFF ∷ 0xD8 ∷ packet 1 44 (packet 0 10 (0xFF ∷ 0xDA ∷ [])))
    ≡ first
    ++ (53 ∷ 49 ∷ 51 ∷ 32 ∷ 51 ∷ 48 ∷ 48 ∷ 32 ∷ 50 ∷ 32 ∷ 65 ∷ 66 ∷ 67 ∷ 68 ∷ 69 ∷ 70 ∷ 48 ∷ 49 ∷ 10 ∷ [])
    ++ (53 ∷ 49 ∷ 51 ∷ 32 ∷ 49 ∷ 48 ∷ 32 ∷ 50 ∷ 32 ∷ 65 ∷ 66 ∷ 67 ∷ 68 ∷ 69 ∷ 70 ∷ 48 ∷ 49 ∷ 10 ∷ [])
    ++ well
unfolding be16 be32 head_at ones barred tagged packet_at whole_at sized_at marked_at step_at steps_in steps_from begins walk ending packets_in packets line lines header answer listing dec_in dec glyph hex
listed = refl

-- "a refused walk gives the header and `answer` with number and place only": a packet in front of a marker 00, and of a tag with length 4: `answer 2 24`, `answer 3 24`.
-- A good walk without packets: "answer 0 0".
pub refused_walks : (listing (0xFF ∷ 0xD8 ∷ packet 0 10 (0xFF ∷ 0x00 ∷ [])) ≡ first ++ (97 ∷ 110 ∷ 115 ∷ 119 ∷ 101 ∷ 114 ∷ 32 ∷ 50 ∷ 32 ∷ 50 ∷ 52 ∷ 10 ∷ []))
    × (listing (0xFF ∷ 0xD8 ∷ packet 0 10 (0xFF ∷ 0xEB ∷ 0 ∷ 4 ∷ 0x4A ∷ 0x50 ∷ [])) ≡ first ++ (97 ∷ 110 ∷ 115 ∷ 119 ∷ 101 ∷ 114 ∷ 32 ∷ 51 ∷ 32 ∷ 50 ∷ 52 ∷ 10 ∷ []))
    × (listing (0xFF ∷ 0xD8 ∷ 0xFF ∷ 0xDA ∷ []) ≡ first ++ well)
unfolding be16 be32 head_at ones barred tagged packet_at whole_at sized_at marked_at step_at steps_in steps_from begins walk ending packets_in packets line lines header answer listing dec_in dec glyph hex
refused_walks = (refl, refl, refl)

-- "numbers decimal"; eight upper-case hex digits; a line and an answer whose parts all differ
pub numerals : (dec 0 ≡ 48 ∷ [])
    × (dec 9 ≡ 57 ∷ [])
    × (dec 10 ≡ 49 ∷ 48 ∷ [])
    × (dec 1024 ≡ 49 ∷ 48 ∷ 50 ∷ 52 ∷ [])
    × (hex 8 0x0123456 ≡ 48 ∷ 48 ∷ 49 ∷ 50 ∷ 51 ∷ 52 ∷ 53 ∷ 54 ∷ [])
    × (hex 8 0x789ABCDE ≡ 55 ∷ 56 ∷ 57 ∷ 65 ∷ 66 ∷ 67 ∷ 68 ∷ 69 ∷ [])
    × (hex 8 0xF0000009 ≡ 70 ∷ 48 ∷ 48 ∷ 48 ∷ 48 ∷ 48 ∷ 48 ∷ 57 ∷ [])
    × (line 12 345 6789 0xA ≡ 49 ∷ 50 ∷ 32 ∷ 51 ∷ 52 ∷ 53 ∷ 32 ∷ 54 ∷ 55 ∷ 56 ∷ 57 ∷ 32 ∷ 48 ∷ 48 ∷ 48 ∷ 48 ∷ 48 ∷ 48 ∷ 48 ∷ 65 ∷ 10 ∷ [])
    × (answer 12 345 ≡ 97 ∷ 110 ∷ 115 ∷ 119 ∷ 101 ∷ 114 ∷ 32 ∷ 49 ∷ 50 ∷ 32 ∷ 51 ∷ 52 ∷ 53 ∷ 10 ∷ [])
unfolding line answer dec_in dec glyph hex
numerals = (refl, refl, refl, refl, refl, refl, refl, refl, refl)

-- the largest number, digit by digit, and its line: `65535 4294967295 2 ABCDEF01`
largest : dec 4294967295 ≡ 52 ∷ 50 ∷ 57 ∷ 52 ∷ 57 ∷ 54 ∷ 55 ∷ 50 ∷ 57 ∷ 53 ∷ []
largest =
    rw (
      dec_more 4294967295 (omega arith),
      dec_more 429496729 (omega arith),
      dec_more 42949672 (omega arith),
      dec_more 4294967 (omega arith),
      dec_more 429496 (omega arith),
      dec_more 42949 (omega arith),
      dec_more 4294 (omega arith),
      dec_more 429 (omega arith),
      dec_more 42 (omega arith),
      dec_small 4 (omega arith),
    )

instance_largest : dec 65535 ≡ 54 ∷ 53 ∷ 53 ∷ 51 ∷ 53 ∷ []
instance_largest = rw (dec_more 65535 (omega arith), dec_more 6553 (omega arith), dec_more 655 (omega arith), dec_more 65 (omega arith), dec_small 6 (omega arith))

pub largest_line : line 65535 4294967295 2 0xABCDEF01 ≡ 54 ∷ 53 ∷ 53 ∷ 51 ∷ 53 ∷ 32 ∷ 52 ∷ 50 ∷ 57 ∷ 52 ∷ 57 ∷ 54 ∷ 55 ∷ 50 ∷ 57 ∷ 53 ∷ 32 ∷ 50 ∷ 32 ∷ 65 ∷ 66 ∷ 67 ∷ 68 ∷ 69 ∷ 70 ∷ 48 ∷ 49 ∷ 10 ∷ []
unfolding line glyph hex
largest_line = rw (instance_largest, largest, dec_small 2 (omega arith))

-- "a file of at most 64 KiB": 65,536 bytes is still taken, one more gives "answer 20 0" whatever they are
pub taken : (file : List ℕ) → length file ≡ 65536 → listing file ≡ header ++ text_after (ending (walk file)) (lines (packets file))
unfolding listing
taken file e = rw e

pub too_long : (file : List ℕ) → length file ≡ 65537 → listing file ≡ first ++ (97 ∷ 110 ∷ 115 ∷ 119 ∷ 101 ∷ 114 ∷ 32 ∷ 50 ∷ 48 ∷ 32 ∷ 48 ∷ 10 ∷ [])
unfolding header answer listing dec_in dec
too_long file e = rw e

-- the 38 bytes of an empty file's listing, in just enough room and in one byte less; a text as far as there is room
pub rooms : (list_packets [] 38 ≡ given (listing [])) × (list_packets [] 37 ≡ refused (refusal 9 38))
unfolding begins walk ending packets_in packets line lines header answer listing list_packets dec_in dec
rooms = (refl, refl)
