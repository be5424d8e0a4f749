-- D6, D7 and S10, practice must not reach live (A8): what a call answers for a type and instance is settled by the packets of that type and instance alone.
use Rattle.std.specs.Prelude.{◌≡◌, List, [], ◌∷◌, map, ℕ, length, take, replicate, Ok}
use Rattle.answers.specs.Verdict.{given, refused, refusal, Meets}
use Rattle.answers.specs.declared.Answer.{Answer}
use Rattle.box_rules.specs.Walk.{walk, ending}
use Rattle.box_rules.specs.Packets.{Packet, packets, mine}
use Rattle.box_rules.specs.Box.{box_bytes}
use Rattle.box_rules.specs.Order.{Reordered}
use Rattle.box_rules.specs.Layout.{Part, laid_out, AllSound, SameFor}
use Rattle.demands.specs.Cases.{box, Result, naturals, Case, ◌gives◌, Hold, lpts}

-- ---- the law

-- D6: "two files whose walks both end well"; "Nothing is promised where one of the walks is refused"
abbrev pub EndsWell : List ℕ → Type 0
EndsWell file = ending (walk file) ≡ Ok 0

-- D6: "their packets of one type and instance", in file order: what each head states, and each payload; where a packet stands is no part of it
abbrev pub own : ℕ → ℕ → List ℕ → List Packet
own kind instance file = mine kind instance (packets file)

-- D6, N17: "the answer for that type and instance is the same: number, place and every byte of the destination"; and the second place
pub record Same (after after' : List ℕ) (answer answer' : Answer) : Type 0 where
  pub number : answer.number ≡ answer'.number
  pub place : answer.place ≡ answer'.place
  pub second : answer.second ≡ answer'.second
  pub bytes : after ≡ after'

-- D6: "given the same destination before the call": whatever it is, two calls that meet the promise of `box_bytes`, one on each file, come to the same
abbrev pub AnsweredAlike : ℕ → ℕ → List ℕ → List ℕ → Type 0
AnsweredAlike kind instance file file' =
    (before after after' : List ℕ) (answer answer' : Answer)
    → Meets 0 (box_bytes file kind instance (length before)) before after answer
    → Meets 0 (box_bytes file' kind instance (length before)) before after' answer'
    → Same after after' answer answer'

-- A8, for every type and instance
pub record PracticeApart : Type 0 where
  -- D6: "If their packets of one type and instance are the same in the same file order"
  pub strangers : (kind instance : ℕ) (file file' : List ℕ) → EndsWell file → EndsWell file'
      → own kind instance file ≡ own kind instance file' → AnsweredAlike kind instance file file'
  -- D7: "File order doesn't matter."
  pub order : (kind instance : ℕ) (file file' : List ℕ) → EndsWell file → EndsWell file'
      → Reordered (own kind instance file) (own kind instance file') → AnsweredAlike kind instance file file'
  -- D6, D7, P24: "Other boxes may differ in count, content and position": any two files that are laid out with the same packets of this type and instance;
  -- `own` and the walk, by which both files are read above, have no part in these words
  pub written : (kind instance : ℕ) (parts parts' : List Part) (fill fill' : ℕ) (behind behind' : List ℕ) → AllSound parts → AllSound parts'
      → SameFor kind instance parts parts' → AnsweredAlike kind instance (laid_out parts fill behind) (laid_out parts' fill' behind')

-- ---- pictures: the segments in front of a rest

-- S10: a packet up to its LBox: its segment's length, its instance, number and LBox; the rest begins with its type and payload
abbrev pub packet : ℕ → ℕ → ℕ → ℕ → List ℕ → List ℕ
packet len instance number lbox rest =
    0xFF ∷ 0xEB ∷ 0x00 ∷ len ∷ 0x4A ∷ 0x50 ∷ 0x00 ∷ instance ∷ 0x00 ∷ 0x00 ∷ 0x00 ∷ number ∷ 0x00 ∷ 0x00 ∷ 0x00 ∷ lbox ∷ rest

-- S10: the type LPTS, in front of a payload
abbrev pub of_lpts : List ℕ → List ℕ
of_lpts rest = 0x4C ∷ 0x50 ∷ 0x54 ∷ 0x53 ∷ rest

-- S10: the live box, LPTS, instance 1, is the time 9.58 in two packets
abbrev pub first : List ℕ → List ℕ
first rest = packet 0x14 1 1 12 (of_lpts (0x39 ∷ 0x2E ∷ rest))

abbrev pub second : List ℕ → List ℕ
second rest = packet 0x14 1 2 12 (of_lpts (0x35 ∷ 0x38 ∷ rest))

-- S10: a packet of practice, 9.99: LPTS, of this instance, number 1; a box of its own in instance 2
abbrev pub practice : ℕ → List ℕ → List ℕ
practice instance rest = packet 0x16 instance 1 12 (of_lpts (0x39 ∷ 0x2E ∷ 0x39 ∷ 0x39 ∷ rest))

-- S10: a stranger's box: TONE, instance 1, of this LBox
abbrev pub tone : ℕ → List ℕ → List ℕ
tone lbox rest = packet 0x14 1 1 lbox (0x54 ∷ 0x4F ∷ 0x4E ∷ 0x45 ∷ 0x31 ∷ 0x32 ∷ rest)

-- S10: a segment that is no packet
abbrev pub comment : List ℕ → List ℕ
comment rest = 0xFF ∷ 0xFE ∷ 0x00 ∷ 0x04 ∷ 0x68 ∷ 0x69 ∷ rest

-- S10: a comment that holds a packet of practice, as the live box's number 1, from its FF to its last byte
abbrev pub wrapped : List ℕ → List ℕ
wrapped rest = 0xFF ∷ 0xFE ∷ 0x00 ∷ 0x1A ∷ practice 1 rest

-- S10: FF D8 in front, and DA with what stands behind it
abbrev pub start : List ℕ → List ℕ
start rest = 0xFF ∷ 0xD8 ∷ rest

abbrev pub sos : List ℕ → List ℕ
sos behind = 0xFF ∷ 0xDA ∷ behind

-- ---- the same picture, again and again

-- S10: the picture
abbrev pub live : List ℕ
live = start (first (second (sos [])))

-- S10: with a stranger's box in front, between and behind
abbrev pub stranger_in_front : List ℕ
stranger_in_front = start (tone 10 (first (second (sos []))))

abbrev pub stranger_between : List ℕ
stranger_between = start (first (tone 10 (second (sos []))))

abbrev pub stranger_behind : List ℕ
stranger_behind = start (first (second (tone 10 (sos []))))

-- S10: with a practice box of the same type
abbrev pub practice_between : List ℕ
practice_between = start (first (practice 2 (second (sos []))))

-- S10: with practice inside a comment
abbrev pub practice_wrapped : List ℕ
practice_wrapped = start (first (wrapped (second (sos []))))

-- S10: the two packets the other way round
abbrev pub backward : List ℕ
backward = start (second (first (sos [])))

-- S10: all of that, with fill, and practice behind SOS too
abbrev pub elsewhere : List ℕ
elsewhere = start (comment (practice 2 (0xFF ∷ 0xFF ∷ second (tone 10 (wrapped (first (0xFF ∷ sos (practice 1 []))))))))

-- ---- a picture that lost a packet, and the same with a practice packet of the number that is gone

abbrev pub lost : List ℕ
lost = start (second (sos []))

abbrev pub lost_beside : List ℕ
lost_beside = start (practice 2 (second (sos [])))

-- ---- and two that are not the same

-- S10: the practice packet under the live box's type, instance and number
abbrev pub accident : List ℕ
accident = start (first (second (practice 1 (sos []))))

-- S10: "a broken stranger's packet stops the walk": its LBox is 7
abbrev pub broken_stranger : List ℕ
broken_stranger = start (first (second (tone 7 (sos []))))

-- S10: all of them, as a program runs them
abbrev pub pictures : List (List ℕ)
pictures =
    live ∷ stranger_in_front ∷ stranger_between ∷ stranger_behind ∷ practice_between ∷ practice_wrapped ∷ backward ∷ elsewhere ∷ lost ∷ lost_beside ∷ accident ∷ broken_stranger ∷ []

-- ---- the list, by computation

-- S10: 9.58
abbrev pub time : Result
time = naturals (given (0x39 ∷ 0x2E ∷ 0x35 ∷ 0x38 ∷ []))

-- S10: a refusal
abbrev pub no : ℕ → ℕ → Result
no number place = naturals (refused (refusal number place))

-- S10: each picture in turn asked for LPTS, instance 1, into six bytes; then the practice box itself, and three bytes, one too few
abbrev pub practice_cases : List Case
practice_cases =
    (box live lpts 1 6 gives time)
    ∷ (box stranger_in_front lpts 1 6 gives time)
    ∷ (box stranger_between lpts 1 6 gives time)
    ∷ (box stranger_behind lpts 1 6 gives time)
    ∷ (box practice_between lpts 1 6 gives time)
    ∷ (box practice_wrapped lpts 1 6 gives time)
    ∷ (box backward lpts 1 6 gives time)
    ∷ (box elsewhere lpts 1 6 gives time)
    ∷ (box lost lpts 1 6 gives no 7 1)
    ∷ (box lost_beside lpts 1 6 gives no 7 1)
    ∷ (box accident lpts 1 6 gives no 6 1)
    ∷ (box broken_stranger lpts 1 6 gives no 3 46)
    ∷ (box practice_between lpts 2 6 gives naturals (given (0x39 ∷ 0x2E ∷ 0x39 ∷ 0x39 ∷ [])))
    ∷ (box live lpts 1 3 gives no 9 4)
    ∷ (box elsewhere lpts 1 3 gives no 9 4)
    ∷ []

-- S10: so it is
abbrev pub PracticeHolds : Type 0
PracticeHolds = Hold practice_cases

-- ---- the same by the law, which would not give it if it said less

-- S10: six bytes 2E, lent to each call
abbrev pub dots : List ℕ
dots = replicate 6 0x2E

-- S10: whoever meets the promise on this file answers with this number and place, and leaves these bytes
abbrev pub Answers : List ℕ → ℕ → ℕ → List ℕ → Type 0
Answers file number place left =
    (after : List ℕ) (answer : Answer) → Meets 0 (box_bytes file lpts 1 6) dots after answer
    → (answer.number ≡ number) × (answer.place ≡ place) × (answer.second ≡ 0) × (after ≡ left)

-- S10: 9.58, in front of two that are kept
abbrev pub StillLive : List ℕ → Type 0
StillLive file = Answers file 0 4 (0x39 ∷ 0x2E ∷ 0x35 ∷ 0x38 ∷ 0x2E ∷ 0x2E ∷ [])

-- S10: so it is in each of them. `stopped` is why both walks must end well: `broken_stranger` has the live picture's packets too, and is refused
pub record PracticeShown : Type 0 where
  pub in_front : StillLive stranger_in_front
  pub between : StillLive stranger_between
  pub behind : StillLive stranger_behind
  pub practised : StillLive practice_between
  pub inside : StillLive practice_wrapped
  pub turned : StillLive backward
  pub moved : StillLive elsewhere
  pub gone : Answers lost_beside 7 1 (replicate 6 0)
  pub stopped : own lpts 1 live ≡ own lpts 1 broken_stranger
  pub each : map (λ (c : Case). c.asked) (take 12 practice_cases) ≡ map (λ (file : List ℕ). box file lpts 1 6) pictures
  pub listed : length practice_cases ≡ 15
