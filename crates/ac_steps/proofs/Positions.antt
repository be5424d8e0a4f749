-- The loop over the positions of a block: what is left to read, behind the values read so far, is the whole. Assumes nothing.
use mathlib.Core.Path.{◌≡◌, refl, sym, ap, ◌∙◌}
use mathlib.Core.List.{List, [], ◌∷◌, ◌++◌, append-nil}
use Rattle.std.specs.Prelude.{Option, Some, None, Result, Ok, Err}
use mathlib.Core.Bool.{Bool}
use Prim.Native.Nat.{ℕ, zero, suc, ◌+◌, ◌-◌, ◌≤◌, ◌<◌}
use native.Mathlib.Numerals.{add-one}
use native.Mathlib.Omega.{arith}
use lib.IntN.{ℤ, pos}
use lib.ListN.{length, get_or, take, drop, set, length-set, drop_of_length-le}
use lib.Seq.{drop-cons, take-suc-set, append_snoc, take_all}
use Rattle.bit_rules.specs.Source.{Source, Stop, Out, got, stopped, stop, take_bit}
use Rattle.bit_rules.specs.Reader.{and_then, done}
use Rattle.bit_rules.specs.Table.{Table}
use Rattle.plane_rules.specs.Task.{Task, walk, ended, at_zero, pass, over}
use Rattle.plane_rules.specs.AcRead.{task_at, position, block_end, ac_block}
use Rattle.bits.specs.Code.{bits_in, read_as}
use Rattle.bits.specs.declared.BitReader.{BitReader}
use Rattle.bits.specs.declared.Stop.{Stop as Refused}
use Rattle.ac_tasks.specs.Code.{block_of}
use Rattle.ac_tasks.specs.declared.Job.{Job}
use Rattle.ac_values.specs.Code.{fixing, aim, aimed}
use Rattle.ac_values.proofs.Values.{stays, at_value, landed}
use Rattle.ac_steps.specs.Code.{in_front, At, Carries, Halts, NoWalk}

front_none : (o : Out (List ℤ × Option Task)) → in_front [] o ≡ o
unfolding in_front
front_none (got r s) = refl
front_none (stopped x) = refl

front_one : (values : List ℤ) (v : ℤ) (o : Out (List ℤ × Option Task))
    → in_front values (and_then (λ (r : List ℤ × Option Task). done (v ∷ r.0, r.1)) o) ≡ in_front (values ++ (v ∷ [])) o
unfolding in_front
front_one values v (got r s) = ap (λ (l : List ℤ). got (l, r.1) s) (sym (append_snoc values v r.0))
front_one values v (stopped x) = refl

front_all : (values : List ℤ) (r : BitReader) (x : Result (Option Job) Refused) → in_front values (read_as (block_of []) r x) ≡ read_as (block_of values) r x
unfolding in_front read_as
front_all values r (Ok task) = ap (λ (l : List ℤ). got (block_of l task) (bits_in r)) (append-nil values)
front_all values r (Err x) = refl

pub at_first : {T : Table} {left : ℕ} {values now : List ℤ} {o : Option Task} {s : Source} → length now ≡ length values → At T left values now o o s s 0
at_first l = record { within = omega arith; long = l; same = front_none _ }

module _ {T : Table} {left : ℕ} {values now : List ℤ} {o₀ o : Option Task} {s₀ s : Source} {i : ℕ} (a : At T left values now o₀ o s₀ s i) where
  pub at_end : (r : BitReader) (x : Result (Option Job) Refused) → length values ≤ i → read_as (block_of []) r x ≡ block_end o s → read_as (block_of now) r x ≡ ac_block T left o₀ values s₀
  unfolding ac_block
  at_end r x h e =
      let all : take i now ≡ now = take_all i now (omega (arith, a.long)) in
      sym (front_all now r x) ∙ (rw (drop_of_length-le values {i = i} h, all, ← e) at a.same)

  module _ (h : i < length values) where
    next : drop i values ≡ get_or values i (pos 0) ∷ drop (i + 1) values
    next = rw (add-one i) (drop-cons values i (pos 0) h)

    pub at_asked_stopped : {x : Stop} → task_at T left o s ≡ stopped x → stopped x ≡ ac_block T left o₀ values s₀
    unfolding ac_block in_front
    at_asked_stopped e = rw (next, e) at a.same

    -- a code was read: its task is open, and nothing else has changed
    pub at_asked : {t : Task} {z : Source} → task_at T left o s ≡ got t z → At T left values now o₀ (Some t) s₀ z i
    unfolding ac_block task_at
    at_asked e = record { within = a.within; long = a.long; same = rw next (rw (next, e) at a.same) }

    module _ {t : Task} (e : o ≡ Some t) where
      pub at_turn_stopped : {x : Stop} → position t (get_or values i (pos 0)) s ≡ stopped x → stopped x ≡ ac_block T left o₀ values s₀
      unfolding ac_block task_at in_front
      at_turn_stopped q = rw (next, e, q) at a.same

      pub at_turn : {v : ℤ} {after : Option Task} {z : Source} → position t (get_or values i (pos 0)) s ≡ got (v, after) z → At T left values (set now i v) o₀ after s₀ z (i + 1)
      unfolding ac_block task_at
      at_turn {v} {after} {z} q =
          let l : i < length now = omega (arith, a.long) in
          record {
            within = omega arith;
            long = length-set now i v ∙ a.long;
            same =
                rw (add-one i, take-suc-set now i v l, ← add-one i)
                (sym (front_one (take i now) v (ac_block T left after (drop (i + 1) values) z)) ∙ (rw (next, e, q) at a.same));
          }

-- where no walk is open the block ends well: `NoWalk` leaves out all that `block_end` stops with 16
pub no_walk_ends : (o : Option Task) (s : Source) → NoWalk o → block_end o s ≡ got ([], over o) s
unfolding block_end
no_walk_ends None s h = refl
no_walk_ends (Some (ended n)) s h = refl
no_walk_ends (Some (walk n b)) s h = absurd h

-- ---- the same of what the code comes to from a position on

-- an open walk at the block's end has "no place left in the block"
pub carries_out : {values before now : List ℤ} {o : Option Task} {s : Source} {i j m : ℕ} {b : Option Bool} (r : BitReader) → Carries values before now o (Some (walk m b)) s (bits_in r) i j → length values ≤ j
    → Halts values before o s i (stop 16 (bits_in r).last)
unfolding read_as block_end
carries_out r k h = record { same = λ T left o₀ s₀ a. at_end (k.same T left o₀ s₀ a) r (Err (record { number = 16; offset = (bits_in r).last })) h refl }

module _ {values before now : List ℤ} {o : Option Task} {t : Task} {s u : Source} {i j : ℕ} (k : Carries values before now o (Some t) s u i j) (h : j < length values) where
  -- a zero
  pub carries_zero : get_or values j (pos 0) ≡ pos 0 → Carries values before (set now j (at_zero t)) o (pass t) s u i (j + 1)
  unfolding position
  carries_zero z = record { long = λ l. length-set now j (at_zero t) ∙ k.long l; same = λ T left o₀ s₀ a. at_turn (k.same T left o₀ s₀ a) h refl (rw z) }

  module _ (n : get_or values j (pos 0) ≡ pos 0 → ⊥) where
    pub carries_stopped : {x : Stop} → fixing (get_or values j (pos 0)) (take_bit u) ≡ stopped x → Halts values before o s i x
    unfolding stays
    carries_stopped {x} e = record { same = λ T left o₀ s₀ a. at_turn_stopped (k.same T left o₀ s₀ a) h refl (at_value t _ _ (stopped x) n e) }

    pub carries_fixed : {v : ℤ} {z : Source} → fixing (get_or values j (pos 0)) (take_bit u) ≡ got v z → Carries values before (set now j v) o (Some t) s z i (j + 1)
    unfolding stays
    carries_fixed {v} {z} e = record { long = λ l. length-set now j v ∙ k.long l; same = λ T left o₀ s₀ a. at_turn (k.same T left o₀ s₀ a) h refl (at_value t _ _ (got v z) n e) }

-- ---- a walk

module _ {values before now : List ℤ} {o : Option Task} {s u : Source} {i j : ℕ} where
  pub carries_passed : (m : ℕ) {sign : Option Bool} → Carries values before now o (Some (walk m sign)) s u i j → j < length values → get_or values j (pos 0) ≡ pos 0 → (m ≡ 0 → ⊥)
      → Carries values before (set now j (pos 0)) o (Some (walk (m - 1) sign)) s u i (j + 1)
  carries_passed zero k h z n = absurd (n refl)
  carries_passed (suc m) k h z n = let q : suc m - 1 ≡ m = omega arith in rw q (carries_zero k h z)

  pub carries_landed : (m : ℕ) (leave sign : Bool) → Carries values before now o (Some (walk m (aim leave sign))) s u i j → j < length values → get_or values j (pos 0) ≡ pos 0 → m ≡ 0
      → Carries values before (set now j (aimed leave sign)) o None s u i (j + 1)
  carries_landed m leave sign k h z e =
      let k' : Carries values before now o (Some (walk 0 (aim leave sign))) s u i j = rw e at k in
      rw ((landed leave sign).0, (landed leave sign).1) at (carries_zero k' h z)
