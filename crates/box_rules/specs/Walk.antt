-- W1 to W9, P1 to P3, P25: what stands at a position of a file, and the walk as the list of its steps.
use Rattle.answers.specs.declared.Refusal.{Refusal}
use Rattle.std.specs.Prelude.{ℕ, zero, suc, ◌+◌, ◌*◌, ◌-◌, List, [], ◌∷◌, Bool, true, false, cond, length, get_or, drop, ltb, leb, eqb, Result, Ok, Err}
use Rattle.answers.specs.Verdict.{refusal}
use Rattle.box_rules.specs.declared.Head.{Head}
use Rattle.box_rules.specs.declared.Step.{Step}
use Rattle.box_rules.specs.declared.Step.TheVariants.{End, Skip, Meet, Broken}

-- W2: "All numbers are big-endian."
unfoldable pub be16 : List ℕ → ℕ → ℕ
be16 file i = get_or file i 0 * 256 + get_or file (i + 1) 0

-- W2: the same in four bytes
unfoldable pub be32 : List ℕ → ℕ → ℕ
be32 file i = be16 file i * 65536 + be16 file (i + 2)

-- W2: the same in eight bytes
unfoldable pub be64 : List ℕ → ℕ → ℕ
be64 file i = be32 file i * 4294967296 + be32 file (i + 4)

-- W4: how many bytes FF a list begins with
unfoldable pub ones : List ℕ → ℕ
ones [] = 0
ones (x ∷ r) = cond (eqb x 0xFF) (suc (ones r)) 0

-- W6: "Markers 00, 01, D0 to D9"
unfoldable pub barred : ℕ → Bool
barred b = cond (ltb b 0x02) true (cond (ltb b 0xD0) false (leb b 0xD9))

-- W7: "whose contents begin 4A 50": the marker at m, the length len, the contents within the segment
unfoldable pub tagged : List ℕ → ℕ → ℕ → Bool
tagged file m len = cond (ltb len 4) false (cond (eqb (get_or file (m + 3) 0) 0x4A) (eqb (get_or file (m + 4) 0) 0x50) false)

-- P1, P2, P3: "length (2), 4A 50, instance (2), sequence number (4), LBox (4), type (4), payload": what the head behind the marker at m states;
-- of the stated length, LBox, 8 bytes are the head of the box
unfoldable pub head_at : List ℕ → ℕ → Head
head_at file m = record { instance = be16 file (m + 5); number = be32 file (m + 7); stated = be32 file (m + 11); heading = 8; kind = be32 file (m + 15) }

-- P25: with LBox 1 "after the type, an eight-byte length" is stated, and "the length counts sixteen bytes of box head"
unfoldable pub long_head_at : List ℕ → ℕ → Head
long_head_at file m = record { instance = (head_at file m).instance; number = (head_at file m).number; stated = be64 file (m + 19); heading = 16; kind = (head_at file m).kind }

-- W8: "LBox below 8, gives 3", or "a long length below 16": a stated length that does not hold the head of the box
abbrev pub held_at : ℕ → Head → ℕ → ℕ → ℕ → Step
held_at at head start len next = cond (ltb head.stated head.heading) (Broken (refusal 3 at)) (Meet head start len next)

-- W8, W9, P1, P25: "Length below 18 with 4A 50 present", or "a segment length below 26 with" LBox 1, gives 3, "where its segment begins";
-- with LBox 1 "the packet head is eight bytes longer"
unfoldable pub packet_at : List ℕ → ℕ → ℕ → ℕ → Step
packet_at file at m len =
    cond (ltb len 18) (Broken (refusal 3 at))
    (cond (eqb (be32 file (m + 11)) 1)
    (cond (ltb len 26) (Broken (refusal 3 at)) (held_at at (long_head_at file m) (m + 27) (len - 26) (m + 1 + len)))
    (held_at at (head_at file m) (m + 19) (len - 18) (m + 1 + len)))

-- W7, W9: "A segment EB whose contents begin 4A 50 is a packet"; "Any other EB segment is skipped", and any other segment
unfoldable pub whole_at : List ℕ → ℕ → ℕ → ℕ → Step
whole_at file at m len =
    cond (eqb (get_or file m 0) 0xEB) (cond (tagged file m len) (packet_at file at m len) (Skip (m + 1 + len))) (Skip (m + 1 + len))

-- W4, W6, W9: "a two-byte length that counts itself": "a length below 2, or a segment past the end give 2"
unfoldable pub sized_at : List ℕ → ℕ → ℕ → Step
sized_at file at m =
    cond (ltb (length file) (m + 3)) (Broken (refusal 2 at))
    (cond (ltb (be16 file (m + 1)) 2) (Broken (refusal 2 at))
    (cond (ltb (length file) (m + 1 + be16 file (m + 1))) (Broken (refusal 2 at))
    (whole_at file at m (be16 file (m + 1)))))

-- W5, W6, W9: "The walk ends well at marker DA, needing nothing after it."
unfoldable pub marked_at : List ℕ → ℕ → ℕ → Step
marked_at file at m =
    cond (leb m at) (Broken (refusal 2 at))
    (cond (leb (length file) m) (Broken (refusal 2 at))
    (cond (eqb (get_or file m 0) 0xDA) End
    (cond (barred (get_or file m 0)) (Broken (refusal 2 at))
    (sized_at file at m))))

-- W3, W4: "A segment is FF, any further FF fill, a marker byte": its marker stands behind the run of FF from its first byte on
unfoldable pub step_at : List ℕ → ℕ → Step
step_at file at = marked_at file at (at + ones (drop at file))

-- ---- the walk

-- W3: the steps behind one, by the position at which the next begins
abbrev pub onward : Step → (ℕ → List Step) → List Step
onward End go = []
onward (Broken r) go = []
onward (Skip next) go = go next
onward (Meet head start len next) go = go next

-- W3: at most k steps from a position; each goes forward, so as many steps as there are bytes left is enough
unfoldable pub steps_in : ℕ → List ℕ → ℕ → List Step
steps_in zero file at = Broken (refusal 2 at) ∷ []
steps_in (suc k) file at = step_at file at ∷ onward (step_at file at) (steps_in k file)

-- W3: the steps from a position on
unfoldable pub steps_from : List ℕ → ℕ → List Step
steps_from file at = steps_in (length file - at) file at

-- W1: a file begins FF D8
unfoldable pub begins : List ℕ → Bool
begins file = cond (ltb (length file) 2) false (cond (eqb (get_or file 0 0) 0xFF) (eqb (get_or file 1 0) 0xD8) false)

-- W1: 1, "does not begin FF D8"; else the steps from a position on
abbrev pub walk_from : List ℕ → ℕ → List Step
walk_from file from = cond (begins file) (steps_from file from) (Broken (refusal 1 0) ∷ [])

-- W3: "The walk starts after FF D8"
unfoldable pub walk : List ℕ → List Step
walk file = walk_from file 2

-- N15, W3: how a walk ended: well, or with the refusal of its last step (a walk has a last step, so the first line is never met)
unfoldable pub ending : List Step → Result ℕ Refusal
ending [] = Ok 0
ending (End ∷ r) = Ok 0
ending (Broken f ∷ r) = Err f
ending (Skip next ∷ r) = ending r
ending (Meet head start len next ∷ r) = ending r
