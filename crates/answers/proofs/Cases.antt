-- What a call returns and leaves (N1 to N4, N12, N17), worked out by hand. Assumes nothing.
use mathlib.Core.Path.{◌≡◌, refl}
use mathlib.Core.Bool.{true, false}
use mathlib.Core.List.{List, [], ◌∷◌, map}
use Prim.Native.Nat.{ℕ}
use Rattle.std.specs.Prelude.{Some, None}
use Rattle.answers.specs.Verdict.{Verdict, given, refused, refusal_at, refusal, need, unless, fitting, answer_of, outcome_of, leaves, MeetsBy, Meets}
use Rattle.answers.specs.declared.Answer.{Answer}

abbrev answer : ℕ → ℕ → ℕ → Answer
answer number place second = record { number = number; place = place; second = second }

-- "With 0 the place is the count of bytes or values written"; a refusal has its own number, place and second place; "All other answers carry 0 as second place."
pub returned : map (λ (v : Verdict ℕ). answer_of (outcome_of v)) (given (7 ∷ 8 ∷ []) ∷ given [] ∷ refused (refusal 8 3) ∷ refused (refusal_at 14 3 5) ∷ [])
    ≡ answer 0 2 0 ∷ answer 0 0 0 ∷ answer 8 3 0 ∷ answer 14 3 5 ∷ []
returned = refl

-- "With any other number the whole lent destination is zeros. On success everything past the written part keeps its contents."
pub kept : (leaves {A = ℕ} 0 (given (7 ∷ [])) (1 ∷ 2 ∷ 3 ∷ []) ≡ 7 ∷ 2 ∷ 3 ∷ []) × (leaves {A = ℕ} 0 (refused (refusal 9 5)) (1 ∷ 2 ∷ 3 ∷ []) ≡ 0 ∷ 0 ∷ 0 ∷ [])
kept = (refl, refl)

-- what stands further out is tested first; a search that found gives its place
pub ordered : map (λ (v : Verdict ℕ). v)
    (need false 20 0 (need false 21 1 (given [])) ∷ need true 20 0 (need false 21 1 (given [])) ∷ unless 11 (Some 4) (need false 9 1 (given [])) ∷ unless 11 None (given (5 ∷ [])) ∷ [])
    ≡ refused (refusal 20 0) ∷ refused (refusal 21 1) ∷ refused (refusal 11 4) ∷ given (5 ∷ []) ∷ []
ordered = refl

-- "destination too short", "length needed", both sides
pub room : (fitting {A = ℕ} 2 (1 ∷ 2 ∷ 3 ∷ []) ≡ refused (refusal 9 3)) × (fitting {A = ℕ} 3 (1 ∷ 2 ∷ 3 ∷ []) ≡ given (1 ∷ 2 ∷ 3 ∷ []))
room = (refl, refl)

-- a call that meets its promise: with one destination; with two, where the list's elements are pairs and a refusal clears both
pub met : Meets {A = ℕ} 0 (given (7 ∷ [])) (1 ∷ 2 ∷ []) (7 ∷ 2 ∷ []) (answer 0 1 0)
met = record { answered = refl; held = refl }

abbrev only : {A B : Type 0} → (A → B) → Verdict A → Verdict B
only f (given ys) = given (map f ys)
only f (refused r) = refused r

abbrev apart : Verdict (ℕ × ℕ) → List ℕ × List ℕ → List ℕ × List ℕ
apart v d = (leaves {A = ℕ} 0 (only (λ p. p.0) v) d.0, leaves {A = ℕ} 0 (only (λ p. p.1) v) d.1)

pub met_twice : MeetsBy (λ v. outcome_of v) apart (given ((7, 8) ∷ [])) (1 ∷ 2 ∷ [], 3 ∷ []) (7 ∷ 2 ∷ [], 8 ∷ []) (answer 0 1 0)
met_twice = record { answered = refl; held = refl }

pub cleared_twice : MeetsBy (λ v. outcome_of v) apart (refused (refusal 20 0)) (1 ∷ 2 ∷ [], 3 ∷ []) (0 ∷ 0 ∷ [], 0 ∷ []) (answer 20 0 0)
cleared_twice = record { answered = refl; held = refl }
