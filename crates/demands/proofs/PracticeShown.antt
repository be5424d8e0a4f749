-- Practice does not reach live: the list, and the same by the law. Assumes nothing.
use mathlib.Core.Path.{◌≡◌, refl, subst}
use mathlib.Core.Logic.{inl, inr}
use mathlib.Core.List.{List, [], ◌∷◌}
use Prim.Native.Nat.{ℕ, ◌≤◌}
use native.Mathlib.Omega.{arith}
use lib.ListN.{replicate}
use Rattle.answers.specs.Verdict.{Meets}
use Rattle.box_rules.specs.Walk.{be16, be32, head_at, ones, barred, tagged, packet_at, whole_at, sized_at, marked_at, step_at, steps_in, steps_from, begins, walk, ending}
use Rattle.box_rules.specs.Packets.{Packet, packets_in, packets, is_mine, mine}
use Rattle.box_rules.specs.Numbers.{numbers, count, least, first_twice, missing_from, first_missing}
use Rattle.box_rules.specs.Box.{alike, agree, contents, total, numbered, joined_from, joined, assembled, assemble, box_bytes}
use Rattle.box_rules.specs.Order.{swap}
use Rattle.box_rules.specs.Layout.{Part, packed, other, Boxed, Plain, two, four, segment, headed, inner, bytes_of, all_bytes, laid_out, AllSound, SameFor, empty, shared, there, exchanged, through}
use Rattle.demands.specs.Cases.{result_of, lpts}
use Rattle.demands.specs.Practice.{EndsWell, own, AnsweredAlike, practice, live, stranger_in_front, stranger_between, stranger_behind, practice_between, practice_wrapped, backward, elsewhere, lost, lost_beside, PracticeHolds, dots, StillLive, PracticeShown}
use Rattle.demands.proofs.Practice.{practice_apart}
use Rattle.demands.proofs.PracticeStill.{still}

-- ---- the list

pub practice_holds : PracticeHolds
unfolding result_of be16 be32 head_at ones barred tagged packet_at whole_at sized_at marked_at step_at steps_in steps_from begins walk ending packets_in packets is_mine mine
    numbers count least first_twice missing_from first_missing alike agree contents total numbered joined_from joined assembled assemble box_bytes
practice_holds = refl

-- ---- the same by the law

-- a call on the live picture, and on the one that lost a packet
met : Meets 0 (box_bytes live lpts 1 6) dots (0x39 ∷ 0x2E ∷ 0x35 ∷ 0x38 ∷ 0x2E ∷ 0x2E ∷ []) (record { number = 0; place = 4; second = 0 })
    × Meets 0 (box_bytes lost lpts 1 6) dots (replicate 6 0) (record { number = 7; place = 1; second = 0 })
unfolding be16 be32 head_at ones barred tagged packet_at whole_at sized_at marked_at step_at steps_in steps_from begins walk ending packets_in packets is_mine mine
    numbers count least first_twice missing_from first_missing alike agree contents total numbered joined_from joined assembled assemble box_bytes
met = (record { answered = refl; held = refl }, record { answered = refl; held = refl })

still_live : (file : List ℕ) → AnsweredAlike lpts 1 live file → StillLive file
still_live file = still live file 0 4 _ met.0

-- walks that end well, and the same packets
by_strangers : (file file' : List ℕ) → EndsWell file → EndsWell file' → own lpts 1 file ≡ own lpts 1 file' → AnsweredAlike lpts 1 file file'
by_strangers = practice_apart.strangers lpts 1

-- ---- the last picture as a writer lays it out

abbrev holding : ℕ → ℕ → ℕ → ℕ → List ℕ → Packet
holding kind instance number stated payload = record { head = record { instance = instance; number = number; stated = stated; heading = 8; kind = kind }; payload = payload }

abbrev pub one : Packet
one = holding lpts 1 1 12 (0x39 ∷ 0x2E ∷ [])

abbrev pub another : Packet
another = holding lpts 1 2 12 (0x35 ∷ 0x38 ∷ [])

abbrev pub practised : Part
practised = packed 0 (holding lpts 2 1 12 (0x39 ∷ 0x2E ∷ 0x39 ∷ 0x39 ∷ []))

abbrev toned : Part
toned = packed 0 (holding 0x544F4E45 1 1 10 (0x31 ∷ 0x32 ∷ []))

abbrev remark : List ℕ → Part
remark contents = other 0 0xFE contents

abbrev greeting : Part
greeting = remark (0x68 ∷ 0x69 ∷ [])

abbrev live_parts : List Part
live_parts = packed 0 one ∷ packed 0 another ∷ []

abbrev elsewhere_parts : List Part
elsewhere_parts = greeting ∷ practised ∷ packed 2 another ∷ toned ∷ remark (practice 1 []) ∷ packed 0 one ∷ []

live_laid : laid_out live_parts 0 [] ≡ live
unfolding laid_out all_bytes bytes_of segment inner headed two four
live_laid = refl

elsewhere_laid : laid_out elsewhere_parts 1 (practice 1 []) ≡ elsewhere
unfolding laid_out all_bytes bytes_of segment inner headed two four
elsewhere_laid = refl

pub boxed : (kind instance number stated : ℕ) (payload : List ℕ) → 8 ≤ stated → Boxed (holding kind instance number stated payload)
boxed kind instance number stated payload h = record { form = inl refl; least = h }

plain : (contents : List ℕ) → Plain 0xFE contents
plain contents = record { low = omega arith; high = omega arith; carries = inr (omega arith); untagged = λ e r c. omega arith }

live_sound : AllSound live_parts
live_sound = (boxed _ _ _ _ _ (omega arith), (boxed _ _ _ _ _ (omega arith), tt))

elsewhere_sound : AllSound elsewhere_parts
elsewhere_sound =
    (plain _, (boxed _ _ _ _ _ (omega arith), (boxed _ _ _ _ _ (omega arith), (boxed _ _ _ _ _ (omega arith), (plain _, (boxed _ _ _ _ _ (omega arith), tt))))))

same_parts : SameFor lpts 1 live_parts elsewhere_parts
same_parts =
    through exchanged
    (there {x = greeting} tt
    (there {x = practised} (λ k i. omega arith)
    (shared 0 2
    (there {x = toned} (λ k i. omega arith)
    (there {x = remark (practice 1 [])} tt
    (shared 0 0 empty))))))

elsewhere_alike : AnsweredAlike lpts 1 live elsewhere
elsewhere_alike =
    subst (λ (x : List ℕ). AnsweredAlike lpts 1 live x) elsewhere_laid
    (subst (λ (x : List ℕ). AnsweredAlike lpts 1 x (laid_out elsewhere_parts 1 (practice 1 []))) live_laid
    (practice_apart.written lpts 1 live_parts elsewhere_parts 0 1 [] (practice 1 []) live_sound elsewhere_sound same_parts))

pub practice_shown : PracticeShown
unfolding be16 be32 head_at ones barred tagged packet_at whole_at sized_at marked_at step_at steps_in steps_from begins walk ending packets_in packets is_mine mine
practice_shown = record {
  in_front = still_live stranger_in_front (by_strangers live stranger_in_front refl refl refl);
  between = still_live stranger_between (by_strangers live stranger_between refl refl refl);
  behind = still_live stranger_behind (by_strangers live stranger_behind refl refl refl);
  practised = still_live practice_between (by_strangers live practice_between refl refl refl);
  inside = still_live practice_wrapped (by_strangers live practice_wrapped refl refl refl);
  turned = still_live backward (practice_apart.order lpts 1 live backward refl refl swap);
  moved = still_live elsewhere elsewhere_alike;
  gone = still lost lost_beside 7 1 _ met.1 (by_strangers lost lost_beside refl refl refl);
  stopped = refl;
  each = refl;
  listed = refl;
}
