-- What a call must leave, and the tally of groups, worked out by hand. Assumes nothing.
use mathlib.Core.Path.{◌≡◌, refl}
use mathlib.Core.Bool.{true, false}
use mathlib.Core.List.{List, [], ◌∷◌, map}
use Prim.Native.Nat.{ℕ}
use lib.Dec.{eqb}
use lib.IntN.{pos, negsuc}
use Rattle.std.specs.Prelude.{Some, None}
use Rattle.answers.specs.declared.Answer.{Answer}
use Rattle.test_rules.specs.Fields.{pair_at, number_at}
use Rattle.test_rules.specs.declared.Run.{Run}
use Rattle.test_rules.specs.Wanted.{wanted, is_wanted, same_value, nothing, right}
use Rattle.test_rules.specs.Runs.{begun, counted, goes_on, moved, next_run}

-- what is expected, behind it what stood there, and zeros after a refusal
pub left : map (wanted {A = ℕ} 0 7 (5 ∷ 6 ∷ []) 0) (0 ∷ 1 ∷ 2 ∷ []) ≡ 5 ∷ 6 ∷ 7 ∷ []
unfolding wanted
left = refl

pub cleared : map (wanted {A = ℕ} 0 7 (5 ∷ 6 ∷ []) 9) (0 ∷ 1 ∷ 2 ∷ []) ≡ 0 ∷ 0 ∷ 0 ∷ []
unfolding wanted
cleared = refl

pub held : map (is_wanted {A = ℕ} eqb 0 7 (5 ∷ 6 ∷ 7 ∷ 8 ∷ []) (5 ∷ 1 ∷ []) 0) (0 ∷ 1 ∷ 2 ∷ 3 ∷ []) ≡ true ∷ false ∷ true ∷ false ∷ []
unfolding is_wanted wanted
held = refl

pub values : same_value (pos 3) (pos 3) ∷ same_value (negsuc 0) (pos 1) ∷ same_value (pos 1) (negsuc 0) ∷ [] ≡ true ∷ false ∷ false ∷ []
unfolding same_value
values = refl

abbrev answer : Answer
answer = record { number = 7; place = 2; second = 5 }

-- number, place, second place and destination, each alone
pub judged : right answer 7 2 5 None ∷ right answer 6 2 5 None ∷ right answer 7 1 5 None ∷ right answer 7 2 0 None ∷ right answer 7 2 5 (Some 0) ∷ []
    ≡ true ∷ false ∷ false ∷ false ∷ false ∷ []
unfolding right nothing
judged = refl

abbrev run : ℕ → ℕ → ℕ → ℕ → ℕ → Run
run at left group good all = record { at = at; left = left; group = group; right = good; all = all }

-- two records of group 20, the first at 8; then one of group 30
abbrev file : List ℕ
file = 3 ∷ 0 ∷ 0 ∷ 0 ∷ 8 ∷ 0 ∷ 0 ∷ 0 ∷ 20 ∷ 0 ∷ 0 ∷ 0 ∷ 20 ∷ 0 ∷ 0 ∷ 0 ∷ 30 ∷ 0 ∷ 0 ∷ 0 ∷ []

pub runs : begun file ∷ next_run file (run 8 3 20 0 0) (record { good = true; next = 12 }) ∷ next_run file (run 12 2 20 1 1) (record { good = false; next = 16 }) ∷ []
    ≡ run 8 3 20 0 0 ∷ run 12 2 20 1 1 ∷ run 16 1 30 0 0 ∷ []
unfolding begun counted goes_on moved next_run pair_at number_at
runs = refl

pub tallied : (counted (run 8 3 20 4 5) true ≡ run 8 2 20 5 6) × (counted (run 8 3 20 4 5) false ≡ run 8 2 20 4 6)
unfolding counted
tallied = (refl, refl)

pub same_group : goes_on 0 20 20 ∷ goes_on 1 20 20 ∷ goes_on 1 20 30 ∷ [] ≡ false ∷ true ∷ false ∷ []
unfolding goes_on
same_group = refl
