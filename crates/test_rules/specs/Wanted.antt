-- What a call must answer and leave: 0 after a refusal, else what is expected, and behind that what stood there before. For any element.
use Rattle.std.specs.Prelude.{Bool, true, false, cond, List, ℕ, ℤ, length, get_or, ltb, eqb, Option, Some, None}
use Rattle.std.specs.Int.Signed.{le_z}
use Rattle.answers.specs.declared.Answer.{Answer}

unfoldable pub wanted : {A : Type 0} → A → A → List A → ℕ → ℕ → A
wanted zero before expected number i = cond (eqb number 0) (cond (ltb i (length expected)) (get_or expected i zero) before) zero

unfoldable pub is_wanted : {A : Type 0} → (A → A → Bool) → A → A → List A → List A → ℕ → ℕ → Bool
is_wanted same zero before output expected number i = same (get_or output i zero) (wanted zero before expected number i)

unfoldable pub same_value : ℤ → ℤ → Bool
same_value a b = cond (le_z a b) (le_z b a) false

unfoldable pub nothing : Option ℕ → Bool
nothing (Some i) = false
nothing None = true

unfoldable pub right : Answer → ℕ → ℕ → ℕ → Option ℕ → Bool
right a number place second wrong = cond (eqb a.number number) (cond (eqb a.place place) (cond (eqb a.second second) (nothing wrong) false) false) false
