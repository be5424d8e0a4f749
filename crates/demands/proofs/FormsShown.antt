-- Either form: the pictures, by the law. Assumes nothing.
use mathlib.Core.Path.{◌≡◌, refl, subst}
use mathlib.Core.List.{List, [], ◌∷◌}
use Prim.Native.Nat.{ℕ}
use native.Mathlib.Omega.{arith}
use Rattle.answers.specs.Verdict.{Meets}
use Rattle.box_rules.specs.Walk.{be16, be32, be64, head_at, long_head_at, ones, barred, tagged, packet_at, whole_at, sized_at, marked_at, step_at, steps_in, steps_from, begins, walk, ending}
use Rattle.box_rules.specs.Packets.{packets_in, packets, is_mine, mine}
use Rattle.box_rules.specs.Numbers.{numbers, count, least, first_twice, missing_from, first_missing}
use Rattle.box_rules.specs.Box.{alike, agree, contents, total, numbered, joined_from, joined, assembled, assemble, box_bytes}
use Rattle.box_rules.specs.Layout.{Part, packed, two, four, eight, segment, headed, inner, bytes_of, all_bytes, laid_out, AllSound, longer, lengthened, InLongForm, empty, longer_there, same_there}
use Rattle.demands.specs.Cases.{result_of, lpts}
use Rattle.demands.specs.Practice.{AnsweredAlike, practice_between, dots}
use Rattle.demands.specs.Forms.{live_in_long_form, FormsShown}
use Rattle.demands.proofs.PracticeShown.{one, another, practised, boxed}
use Rattle.demands.proofs.PracticeStill.{still}
use Rattle.demands.proofs.Forms.{either_form}

-- ---- the pictures

abbrev short_parts : List Part
short_parts = packed 0 one ∷ practised ∷ packed 0 another ∷ []

abbrev long_parts : List Part
long_parts = packed 0 (lengthened one) ∷ practised ∷ packed 0 (lengthened another) ∷ []

short_laid : laid_out short_parts 0 [] ≡ practice_between
unfolding laid_out all_bytes bytes_of segment inner headed two four
short_laid = refl

long_laid : laid_out long_parts 0 [] ≡ live_in_long_form
unfolding laid_out all_bytes bytes_of segment inner headed two four eight longer lengthened
long_laid = refl

short_sound : AllSound short_parts
short_sound = (boxed _ _ _ _ _ (omega arith), (boxed _ _ _ _ _ (omega arith), (boxed _ _ _ _ _ (omega arith), tt)))

in_long_form : InLongForm lpts 1 short_parts long_parts
in_long_form = longer_there 0 0 refl refl refl (same_there {x = practised} (λ k i. omega arith) (longer_there 0 0 refl refl refl empty))

pictures_alike : AnsweredAlike lpts 1 practice_between live_in_long_form
pictures_alike =
    subst (λ (x : List ℕ). AnsweredAlike lpts 1 practice_between x) long_laid
    (subst (λ (x : List ℕ). AnsweredAlike lpts 1 x (laid_out long_parts 0 [])) short_laid
    (either_form lpts 1 short_parts long_parts 0 0 [] [] short_sound in_long_form))

-- a call on the picture in the short form
met : Meets 0 (box_bytes practice_between lpts 1 6) dots (0x39 ∷ 0x2E ∷ 0x35 ∷ 0x38 ∷ 0x2E ∷ 0x2E ∷ []) (record { number = 0; place = 4; second = 0 })
unfolding be16 be32 head_at ones barred tagged packet_at whole_at sized_at marked_at step_at steps_in steps_from begins walk ending packets_in packets is_mine mine
    numbers count least first_twice missing_from first_missing alike agree contents total numbered joined_from joined assembled assemble box_bytes
met = record { answered = refl; held = refl }

pub forms_shown : FormsShown
unfolding result_of be16 be32 be64 head_at long_head_at ones barred tagged packet_at whole_at sized_at marked_at step_at steps_in steps_from begins walk ending packets_in packets is_mine mine
    numbers count least first_twice missing_from first_missing alike agree contents total numbered joined_from joined assembled assemble box_bytes
forms_shown = record { holds = refl; longer = still practice_between live_in_long_form 0 4 _ met pictures_alike }
