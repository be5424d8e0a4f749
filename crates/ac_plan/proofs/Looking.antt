-- Laws of looking ahead: in a block from a position on, over blocks from one on. Assumes nothing.
use mathlib.Core.Path.{◌≡◌, refl, sym, ap, ◌∙◌}
use mathlib.Core.Bool.{Bool}
use mathlib.Core.List.{List, [], ◌∷◌}
use Rattle.std.specs.Prelude.{Option, Some, None}
use Prim.Native.Nat.{ℕ, zero, suc, ◌+◌, ◌-◌, ◌*◌, ◌≤◌, ◌<◌}
use native.Mathlib.Numerals.{add-one}
use native.Mathlib.Omega.{arith}
use lib.IntN.{ℤ, pos, negsuc}
use lib.ListN.{length, get_or, take, drop, drop_of_length-le}
use lib.Seq.{drop-cons, drop-drop}
use Rattle.bit_rules.specs.Digits.{odd}
use Rattle.plane_rules.specs.AcRead.{cut}
use Rattle.plane_rules.specs.AcWrite.{Kind, fresh, kind_of, ahead, one_more, quiet, unless_new}
use Rattle.plane_rules.proofs.Halves.{kind_zero, kind_up, kind_down}
use Rattle.ac_plan.specs.declared.Coming.{Coming}
use Rattle.ac_plan.specs.Code.{kinds_from, kind_blocks, kind_is, still_is, coming_is}
use Rattle.ac_plan.specs.declared.Change.{Change}
use Rattle.ac_plan.specs.declared.Change.TheVariants.{Kept, Still, Fresh}

-- ---- the kinds of a block

module _ (block : List ℤ) (i : ℕ) where
  pub kinds_cons : i < length block → kinds_from block i ≡ kind_of (get_or block i (pos 0)) ∷ kinds_from block (i + 1)
  unfolding kinds_from
  kinds_cons h = rw (add-one i, drop-cons block i (pos 0) h)

  pub kinds_end : length block ≤ i → kinds_from block i ≡ []
  unfolding kinds_from
  kinds_end h = rw (drop_of_length-le block h)

-- ---- a block from a position on, behind some zeros

abbrev more_zeros : ℕ → Option (ℕ × Bool) → Option (ℕ × Bool)
more_zeros n None = None
more_zeros n (Some p) = Some (n + p.0, p.1)

more_none : (x : Option (ℕ × Bool)) → more_zeros 0 x ≡ x
more_none None = refl
more_none (Some p) = ap (λ (k : ℕ). Some (k, p.1)) (omega arith)

more_one : (n : ℕ) (x : Option (ℕ × Bool)) → more_zeros n (one_more x) ≡ more_zeros (n + 1) x
unfolding one_more
more_one n None = refl
more_one n (Some p) = ap (λ (k : ℕ). Some (k, p.1)) (omega arith)

pub record Looked (block : List ℤ) (from zeros i : ℕ) : Type 0 where
  pub within : zeros ≤ i
  pub same : more_zeros zeros (ahead (kinds_from block i)) ≡ ahead (kinds_from block from)

pub look_start : (block : List ℤ) (from : ℕ) → Looked block from 0 from
look_start block from = record { within = omega arith; same = more_none (ahead (kinds_from block from)) }

module _ {block : List ℤ} {from zeros i : ℕ} (l : Looked block from zeros i) where
  pub look_end : length block ≤ i → coming_is None ≡ ahead (kinds_from block from)
  unfolding coming_is ahead
  look_end h = ap (λ (ks : List Kind). more_zeros zeros (ahead ks)) (sym (kinds_end block i h)) ∙ l.same

  module _ (h : i < length block) {change : Change} (e : kind_is change ≡ kind_of (get_or block i (pos 0))) where
    here : {d : Change} → change ≡ d → more_zeros zeros (ahead (kind_is d ∷ kinds_from block (i + 1))) ≡ ahead (kinds_from block from)
    here {d} q = rw (← q, e, ← kinds_cons block i h) l.same

    pub look_kept : {b : Bool} → change ≡ Kept b → Looked block from zeros (i + 1)
    unfolding kind_is ahead
    look_kept {b} q = record { within = omega (arith, l.within); same = here q }

    pub look_still : change ≡ Still → Looked block from (zeros + 1) (i + 1)
    unfolding kind_is ahead
    look_still q = record { within = omega (arith, l.within); same = sym (more_one zeros (ahead (kinds_from block (i + 1)))) ∙ here q }

    pub look_fresh : {b : Bool} → change ≡ Fresh b → coming_is (Some (record { zeros = zeros; positive = b })) ≡ ahead (kinds_from block from)
    unfolding kind_is coming_is ahead
    look_fresh {b} q = ap (λ (k : ℕ). Some (k, b)) (omega arith) ∙ here q

  -- a value that is not new
  pub look_on : (v : ℤ) → i < length block → get_or block i (pos 0) ≡ v → (v ≡ pos 1 → ⊥) → (v ≡ negsuc 0 → ⊥) → Looked block from (zeros + still_is (kind_of v)) (i + 1)
  unfolding kind_is
  look_on (pos zero) h e n m = rw kind_zero (look_still h {change = Still} (rw (e, kind_zero)) refl)
  look_on (pos (suc zero)) h e n m = absurd (n refl)
  look_on (pos (suc (suc k))) h e n m = let z : zeros + 0 ≡ zeros = omega arith in rw (kind_up k, z) (look_kept h {change = Kept (odd k)} (rw (e, kind_up k)) refl)
  look_on (negsuc zero) h e n m = absurd (m refl)
  look_on (negsuc (suc k)) h e n m = let z : zeros + 0 ≡ zeros = omega arith in rw (kind_down k, z) (look_kept h {change = Kept (odd k)} (rw (e, kind_down k)) refl)

  -- one that is
  pub look_new : (v : ℤ) (b : Bool) → i < length block → get_or block i (pos 0) ≡ v → kind_of v ≡ fresh b → coming_is (Some (record { zeros = zeros; positive = b })) ≡ ahead (kinds_from block from)
  unfolding kind_is
  look_new v b h e k = look_fresh h {change = Fresh b} (sym (ap kind_of e ∙ k)) refl

-- ---- blocks from one on

module _ (blocks : ℕ) (values : List ℤ) (n : ℕ) where
  pub blocks_cons : {part : List ℤ} → n < blocks → part ≡ take 63 (drop (63 * n) values)
      → kind_blocks (blocks - n) (drop (63 * n) values) ≡ kinds_from part 0 ∷ kind_blocks (blocks - (n + 1)) (drop (63 * (n + 1)) values)
  unfolding kind_blocks kinds_from cut
  blocks_cons h e =
      let k : blocks - n ≡ suc (blocks - (n + 1)) = omega arith in
      let s : 63 * (n + 1) ≡ 63 * n + 63 = omega arith in
      rw (k, s, e, drop-drop 63 (63 * n) values)

  pub blocks_end : blocks ≤ n → kind_blocks (blocks - n) (drop (63 * n) values) ≡ []
  unfolding kind_blocks cut
  blocks_end h = let k : blocks - n ≡ 0 = omega arith in rw k

pub blocks_start : (blocks : ℕ) (values : List ℤ) → kind_blocks (blocks - 0) (drop (63 * 0) values) ≡ kind_blocks blocks values
blocks_start blocks values = let k : blocks - 0 ≡ blocks = omega arith in rw k

-- n quiet blocks were passed
pub record Passed (blocks : ℕ) (values : List ℤ) (n : ℕ) : Type 0 where
  pub same : n + quiet (kind_blocks (blocks - n) (drop (63 * n) values)) ≡ quiet (kind_blocks blocks values)

pub passed_none : (blocks : ℕ) (values : List ℤ) → Passed blocks values 0
passed_none blocks values = record { same = omega (arith, ap quiet (blocks_start blocks values)) }

module _ {blocks : ℕ} {values : List ℤ} {n : ℕ} (p : Passed blocks values n) where
  pub passed_all : n ≡ blocks → (blocks ≡ quiet (kind_blocks blocks values)) × (blocks ≤ blocks)
  unfolding quiet
  passed_all e = (omega (arith, p.same, ap quiet (blocks_end blocks values n (omega arith))), omega arith)

  module _ {part : List ℤ} (c : Option Coming) (h : n < blocks) (e : part ≡ take 63 (drop (63 * n) values)) (q : coming_is c ≡ ahead (kinds_from part 0)) where
    counted : quiet (kind_blocks (blocks - n) (drop (63 * n) values)) ≡ unless_new (coming_is c) (quiet (kind_blocks (blocks - (n + 1)) (drop (63 * (n + 1)) values)))
    unfolding quiet
    counted = rw (blocks_cons blocks values n h e, q)

    pub passed_one : c ≡ None → Passed blocks values (n + 1)
    unfolding coming_is
    passed_one f = record { same = omega (arith, p.same, rw f at counted) }

    pub passed_new : {zeros : ℕ} {b : Bool} → c ≡ Some (record { zeros = zeros; positive = b }) → (n ≡ quiet (kind_blocks blocks values)) × (n ≤ blocks)
    unfolding coming_is
    passed_new f = (omega (arith, p.same, rw f at counted), omega arith)
