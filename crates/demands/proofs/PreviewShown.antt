-- What a preview owes: the laws used. Assumes nothing.
use mathlib.Core.Path.{◌≡◌, refl}
use mathlib.Core.Logic.{⊎_elim}
use mathlib.Core.List.{List}
use Prim.Native.Nat.{ℕ, zero, suc, ◌+◌, ◌*◌, ◌/◌, ◌%◌, ◌≤◌, ◌<◌}
use native.Mathlib.Nat.{le_trans}
use native.Mathlib.Omega.{arith}
use lib.IntN.{ℤ}
use lib.ListN.{get_or, replicate, get_or-replicate, get_or-eq_default}
use Rattle.laws.specs.Index.{every}
use Rattle.laws.specs.Apart.{apart_rounded}
use Rattle.laws.specs.First.{first_fail, or_here}
use Rattle.laws.proofs.Integers.{split}
use Rattle.transform_rules.specs.Call.{is_quantiser, first_bad_quantiser}
use Rattle.merge_rules.specs.Pixels.{single, component}
use Rattle.merge_rules.specs.declared.Colour.{Colour}
use Rattle.merge_rules.specs.declared.Colour.TheVariants.{Identity, Transform}
use Rattle.merge_rules.specs.declared.Residual.{Residual}
use Rattle.demands.specs.Three.{Both, Within}
use Rattle.demands.specs.Preview.{owed_tint, owed_colour, owed_result, owed_base, Sound, owed_at, in_full, ResultsShown}
use Rattle.demands.proofs.Preview.{owed_by_largest}
use Rattle.demands.proofs.PreviewResults.{base_falls}
use Rattle.demands.proofs.PreviewNear.{results_are_near}

-- ---- the laws used

none_over : (colour : Colour) (residual : Residual) (components c : ℕ) → owed_base (in_full components colour residual) 0 (single 113) c ≤ 336
unfolding owed_base owed_result owed_colour owed_tint apart_rounded component
none_over Identity residual components c = omega arith
none_over Transform residual components zero = omega arith
none_over Transform residual components (suc zero) = omega arith
none_over Transform residual components (suc (suc c)) = omega arith

abbrev ones : List ℕ
ones = replicate 64 1

ones_small : (i : ℕ) → get_or ones i 0 ≤ 1
ones_small i =
    ⊎_elim (λ (l : i < 64). rw (get_or-replicate {A = ℕ} 64 i 1 0 l) (omega arith)) (λ (l : 64 ≤ i). rw (get_or-eq_default ones 0 {n = i} l) (omega arith)) (split i 64)

-- by the largest quantiser, 1, a place owes at most 7 x 15 + 8
ones_owe : (y x c : ℕ) → y < 8 → x < 8 → component c (owed_at 4 (λ i. ones) y x) ≤ component c (single 113)
unfolding component
ones_owe y x zero hy hx = owed_by_largest 4 1 ones ones_small y x hy hx
ones_owe y x (suc zero) hy hx = owed_by_largest 4 1 ones ones_small y x hy hx
ones_owe y x (suc (suc c)) hy hx = owed_by_largest 4 1 ones ones_small y x hy hx

ones_sound : (n : ℕ) (values : Both ℤ) → Within 4 n values → Sound 4 n values ones
unfolding first_bad_quantiser is_quantiser every first_fail or_here
ones_sound n values a = record { within = a; long = refl; quantised = refl }

pub results_shown_lem : ResultsShown
results_shown_lem components n colour residual values rest ranges one long within p c h hc =
    let s = in_full components colour residual in
    let block : p / 64 < n = omega arith in
    let y : p % 64 / 8 < 8 = omega arith in
    let x : p % 64 % 8 < 8 = omega arith in
    let place : p / 64 * 64 + (p % 64 / 8 * 8 + p % 64 % 8) ≡ p = omega arith in
    le_trans
    (rw place at (results_are_near s 0 n values (λ i. ones) rest refl refl ranges one long (omega arith) (λ i l. ones_sound n (values i) (within i l)) (p / 64) (p % 64 / 8) (p % 64 % 8) c block y x hc))
    (le_trans (base_falls s 0 0 (single 113) _ (omega arith) (λ i. ones_owe (p % 64 / 8) (p % 64 % 8) i y x) c) (none_over colour residual components c))
