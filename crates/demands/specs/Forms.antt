-- D12 and S12, long boxes (A5): a box says the same in either form.
use Rattle.std.specs.Prelude.{List, [], ◌∷◌, ℕ}
use Rattle.answers.specs.Verdict.{given}
use Rattle.box_rules.specs.Layout.{Part, laid_out, AllSound, InLongForm}
use Rattle.demands.specs.Cases.{box, naturals, Case, ◌gives◌, Hold, lpts}
use Rattle.demands.specs.Practice.{AnsweredAlike, packet, of_lpts, second, practice, start, sos, time, no, StillLive}

-- D12: two files that are laid out with the box of a type and instance in the short form here and in the long form there, and with the same strangers
abbrev pub EitherForm : Type 0
EitherForm =
    (kind instance : ℕ) (parts parts' : List Part) (fill fill' : ℕ) (behind behind' : List ℕ) → AllSound parts → InLongForm kind instance parts parts'
    → AnsweredAlike kind instance (laid_out parts fill behind) (laid_out parts' fill' behind')

-- ---- S10's live picture in the long form

-- S12: a packet of LPTS, instance 1, with LBox 1 and the length 20 in eight bytes
abbrev pub long : ℕ → List ℕ → List ℕ
long number rest = packet 0x1C 1 number 1 (of_lpts (0x00 ∷ 0x00 ∷ 0x00 ∷ 0x00 ∷ 0x00 ∷ 0x00 ∷ 0x00 ∷ 0x14 ∷ rest))

abbrev pub long_first : List ℕ → List ℕ
long_first rest = long 1 (0x39 ∷ 0x2E ∷ rest)

abbrev pub long_second : List ℕ → List ℕ
long_second rest = long 2 (0x35 ∷ 0x38 ∷ rest)

-- S12: with practice between, which is in the short form; and the other way round
abbrev pub live_in_long_form : List ℕ
live_in_long_form = start (long_first (practice 2 (long_second (sos []))))

abbrev pub long_backward : List ℕ
long_backward = start (long_second (long_first (sos [])))

-- S12: "5 also covers mixed forms": each with its own length of the box, and both with 20
abbrev pub mixed : List ℕ
mixed = start (long_first (second (sos [])))

abbrev pub mixed_alike : List ℕ
mixed_alike = start (long_first (packet 0x14 1 2 20 (of_lpts (0x35 ∷ 0x38 ∷ sos []))))

-- S12: by computation
abbrev pub form_cases : List Case
form_cases =
    (box live_in_long_form lpts 1 6 gives time)
    ∷ (box long_backward lpts 1 6 gives time)
    ∷ (box mixed lpts 1 6 gives no 5 0)
    ∷ (box mixed_alike lpts 1 6 gives no 5 0)
    ∷ (box live_in_long_form lpts 2 6 gives naturals (given (0x39 ∷ 0x2E ∷ 0x39 ∷ 0x39 ∷ [])))
    ∷ (box live_in_long_form lpts 1 3 gives no 9 4)
    ∷ []

-- S12: so it is, and the law gives it too
pub record FormsShown : Type 0 where
  pub holds : Hold form_cases
  pub longer : StillLive live_in_long_form
