-- The laws of the writer's table of codes: the loop over the places makes each value's entry. Assumes nothing.
use mathlib.Core.Path.{◌≡◌, refl, sym, ap, subst, ◌∙◌}
use mathlib.Core.List.{List}
use mathlib.Core.Bool.{Bool, true, false, not}
use Prim.Native.Nat.{ℕ, ◌+◌, ◌*◌, ◌/◌, ◌%◌, ◌≤◌, ◌<◌}
use native.Mathlib.Numerals.{add-one}
use native.Mathlib.Omega.{arith}
use lib.Dec.{eqb}
use lib.ListN.{length, get_or, set, length-set, replicate, get_or-replicate}
use lib.Seq.{get_or-set_same, get_or-set_other}
use borrow.Author.Tests.{ne_eqb, eqb-true, eqb-false}
use Rattle.laws.specs.First.{first_fail, or_here}
use Rattle.std.specs.Prelude.{Option, Some, None}
use Rattle.bit_rules.specs.Digits.{digits}
use Rattle.bit_rules.specs.Table.{Table, good_table}
use Rattle.bit_rules.specs.Write.{place_of}
use Rattle.code_entries.specs.Code.{Assigned, entry_of, Entered, Entries}
use Rattle.code_entries.specs.declared.Code.{Code}
use Rattle.bit_rules.proofs.Tables.{good}
use Rattle.bit_rules.proofs.Places.{other, first_there}

-- ---- the loop: the entries of the places so far

first_same : (test : ℕ → Bool) (i : ℕ) → test i ≡ true → first_fail (i + 1) test ≡ first_fail i test
unfolding first_fail or_here
first_same test i t = rw (add-one, t) (go (first_fail i test))
  where
    go : (f : Option ℕ) → or_here f true i ≡ f
    go (Some k) = refl
    go None = refl

pub record Entering (T : Table) (entries : List ℕ) (place : ℕ) : Type 0 where
  pub within : place ≤ length T.values
  pub long : length entries ≡ 256
  pub each : (v : ℕ) → v < 256 → Entered T.counts (first_fail place (other T.values v)) (get_or entries v 0)

pub enter_start : (T : Table) → Entering T (replicate 256 0) 0
unfolding first_fail digits
enter_start T = record { within = omega arith; long = refl; each = λ v h. rw (get_or-replicate {A = ℕ} 256 v 0 0 h) (record { same = refl; short = omega arith; none = refl }) }

-- a number of so many times w, and less than w more, gives back both
parts : {found : List Bool} (w n s : ℕ) → digits s n ≡ found → s < w → digits ((w * n + s) % w) ((w * n + s) / w) ≡ found
parts w n s e h =
    let m : (w * n + s) % w ≡ s = grind arith in
    let d : (w * n + s) / w ≡ n = grind arith in
    rw (m, d) e

pub entered : {counts : List ℕ} {place : ℕ} {code : Code} → Assigned counts place code → Entered counts (Some place) (entry_of code)
entered {counts} {place} {code} a = record {
  same = parts _ code.number code.size a.same (omega (arith, a.short));
  short = omega (arith, a.short);
  none = ne_eqb (entry_of code) 0 (λ z. omega (arith, a.some));
}

module _ {T : Table} {entries : List ℕ} {place : ℕ} (g : good_table T ≡ true) (a : Entering T entries place) where
  pub enter_turn : {code : Code} {v : ℕ} → place < length T.values → Assigned T.counts place code → v ≡ get_or T.values place 0 → v < 256
      → Entering T (set entries v (entry_of code)) (place + 1)
  enter_turn {code} {v} h c e b = record {
    within = omega arith;
    long = length-set entries v (entry_of code) ∙ a.long;
    each = λ w k. turned w k (eqb (get_or T.values place 0) w) refl;
  }
    where
      here : Entered T.counts (first_fail (place + 1) (other T.values v)) (get_or (set entries v (entry_of code)) v 0)
      here =
          rw (get_or-set_same entries v (entry_of code) 0 (omega (arith, a.long)), first_there T.values place v (place + 1) (good T g).apart h e (omega arith))
          (entered c)

      turned : (w : ℕ) → w < 256 → (t : Bool) → eqb (get_or T.values place 0) w ≡ t
          → Entered T.counts (first_fail (place + 1) (other T.values w)) (get_or (set entries v (entry_of code)) w 0)
      turned w k true q =
          subst (λ (x : ℕ). Entered T.counts (first_fail (place + 1) (other T.values x)) (get_or (set entries v (entry_of code)) x 0)) (e ∙ eqb-true (get_or T.values place 0) w q) here
      turned w k false q =
          rw (get_or-set_other entries v w (entry_of code) 0 (λ z. eqb-false (get_or T.values place 0) w q (sym e ∙ sym z)), first_same (other T.values w) place (ap not q))
          (a.each w k)

  pub enter_end : length T.values ≤ place → Entries T entries
  unfolding place_of
  enter_end h = let q : place ≡ length T.values = omega (arith, a.within) in record { each = λ v k. rw (← q) (a.each v k) }
