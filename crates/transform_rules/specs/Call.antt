-- T1 to T4: the verdict of the call, "Transform: 20, 21, 22, 11, 9".
use Rattle.std.specs.Prelude.{Bool, List, [], ◌∷◌, ℕ, ◌*◌, leb, eqb, ℤ, length, get_or, Option}
use Rattle.laws.specs.Index.{every}
use Rattle.laws.specs.First.{first_fail}
use Rattle.answers.specs.Verdict.{Verdict, need, unless, fitting}
use Rattle.levels.specs.Level.{first_outside}
use Rattle.levels.specs.declared.Part.TheVariants.{Whole}
use Rattle.transform_rules.specs.Picture.{picture}

-- T3: what 22 asks: "quantiser entry not 1..255"
unfoldable pub is_quantiser : ℕ → Bool
is_quantiser entry = every (leb 1 entry ∷ leb entry 255 ∷ [])

-- T3: 22, "first index"
unfoldable pub first_bad_quantiser : List ℕ → Option ℕ
first_bad_quantiser quantisers = first_fail (length quantisers) (λ i. is_quantiser (get_or quantisers i 0))

-- N9, T1, T2, T4: "Rh and Rr .. 0 to 4", "0 to 1,024 blocks a call"; "64 a block for the transform", "64 lent numbers"; the values are at level R
unfoldable pub inverse_transform : ℕ → ℕ → List ℤ → List ℕ → ℕ → Verdict ℤ
inverse_transform refinement blocks values quantisers room =
    need (every (leb refinement 4 ∷ leb blocks 1024 ∷ [])) 20 0
    (need (every (eqb (length values) (blocks * 64) ∷ eqb (length quantisers) 64 ∷ [])) 21 0
    (unless 22 (first_bad_quantiser quantisers)
    (unless 11 (first_outside Whole refinement values)
    (fitting room (picture refinement blocks values quantisers)))))
