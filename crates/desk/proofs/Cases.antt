-- What an answer is replied as, and when a file is too long, worked out by hand. Assumes nothing.
use mathlib.Core.Path.{◌≡◌, refl}
use mathlib.Core.Bool.{true, false}
use mathlib.Core.List.{[], ◌∷◌, map}
use Prim.Native.Nat.{ℕ}
use Rattle.answers.specs.declared.Answer.{Answer}
use Rattle.desk.specs.Desk.{reply_to, served}
use Rattle.desk.specs.declared.Reply.TheVariants.{Usage, Refused, Bytes}

abbrev answer : ℕ → ℕ → Answer
answer number place = record { number = number; place = place; second = 0 }

-- a box of no bytes is a box; a refusal at place 0 is none
pub replied : map reply_to (answer 0 3 ∷ answer 0 0 ∷ answer 4 0 ∷ answer 7 2 ∷ []) ≡ Bytes 3 ∷ Bytes 0 ∷ Refused (answer 4 0) ∷ Refused (answer 7 2) ∷ []
unfolding reply_to
replied = refl

pub handed : map served (Bytes 0 ∷ Refused (answer 4 0) ∷ Usage ∷ []) ≡ true ∷ false ∷ false ∷ []
unfolding served
handed = refl
