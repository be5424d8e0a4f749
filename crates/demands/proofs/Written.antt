-- The writer's runs are the longest, begin at once, and F0 stands only before a new value. Assumes nothing.
use mathlib.Core.Path.{◌≡◌, refl, sym, ap, ◌∙◌}
use mathlib.Core.Bool.{Bool, true, false, cond}
use mathlib.Core.List.{List, [], ◌∷◌, ◌++◌, map}
use Rattle.std.specs.Prelude.{Option, Some, None}
use Prim.Native.Nat.{ℕ, zero, suc, ◌≤◌, ◌<◌}
use native.Mathlib.Omega.{arith}
use borrow.Author.Tests.{ltb-false}
use lib.Dec.{ltb}
use lib.IntN.{ℤ, pos, negsuc, nat_abs}
use lib.ListN.{length, get_or, take, drop, length-map}
use lib.Seq.{take-append_seam, drop-append_seam}
use Rattle.bit_rules.specs.Source.{Source, Out, got, stopped, take_bit}
use Rattle.bit_rules.specs.Table.{Table}
use Rattle.plane_rules.specs.Plane.{read, onto, in_block}
use Rattle.plane_rules.specs.Task.{Task, walk, ended, over}
use Rattle.plane_rules.specs.AcRead.{task_at, position, block_end, ac_block, ac_blocks}
use Rattle.plane_rules.specs.AcWrite.{ac_half, Kind, keep, still, fresh, kind_of, one_more, ahead, unless_new, quiet, planned, plan, write_block}
use Rattle.plane_rules.specs.Levels.{toward_zero}
use Rattle.plane_rules.proofs.Halves.{kind_zero, kind_up, kind_down}
use Rattle.demands.specs.Written.{together, LongestRun, marks, EndsAtOnce, NewValueLater, SixteenBeforeNew}
use Rattle.demands.proofs.Planes.{got_both, refusing_read, fronted, came, half_block}

-- ---- what an end run leaves: no new value

zero_one : pos 0 ≡ pos 1 → ⊥
zero_one e = let z : ◌≡◌ {A = ℕ} 0 1 = ap nat_abs e in omega arith

zero_minus : pos 0 ≡ negsuc 0 → ⊥
zero_minus e = let z : ◌≡◌ {A = ℕ} 0 1 = ap nat_abs e in omega arith

-- a value that a position in an end run comes to is no new one
no_new : (n : ℕ) (x : ℤ) (s : Source) (y : ℤ × Option Task) (u : Source) → position (ended n) (ac_half x) s ≡ got y u → y.0 ≡ x → (kinds : List Kind) → ahead kinds ≡ None → ahead (kind_of x ∷ kinds) ≡ None
unfolding position ac_half ahead one_more
no_new n (pos zero) s y u e q kinds h = rw (kind_zero, h)
no_new n (pos (suc zero)) s y u e q kinds h = let z : pos 0 ≡ pos 1 = ap (λ (p : ℤ × Option Task). p.0) (got_both e).0 ∙ q in absurd (zero_one z)
no_new n (pos (suc (suc m))) s y u e q kinds h = rw (kind_up m) h
no_new n (negsuc zero) s y u e q kinds h = let z : pos 0 ≡ negsuc 0 = ap (λ (p : ℤ × Option Task). p.0) (got_both e).0 ∙ q in absurd (zero_minus z)
no_new n (negsuc (suc m)) s y u e q kinds h = rw (kind_down m) h

stays : (n : ℕ) (c : ℤ) (s : Source) (y : ℤ × Option Task) (u : Source) → position (ended n) c s ≡ got y u → y.1 ≡ Some (ended n)
unfolding position
stays n (pos zero) s y u e = sym (ap (λ (p : ℤ × Option Task). p.1) (got_both e).0)
stays n (pos (suc m)) s y u e = let w = came _ (take_bit s) y u e in sym (ap (λ (p : ℤ × Option Task). p.1) (got_both w.then).0)
stays n (negsuc m) s y u e = let w = came _ (take_bit s) y u e in sym (ap (λ (p : ℤ × Option Task). p.1) (got_both w.then).0)

first_same : {x y : ℤ} {xs ys : List ℤ} → x ∷ xs ≡ y ∷ ys → x ≡ y
first_same e = ap (λ (l : List ℤ). get_or l 0 (pos 0)) e

rest_same : {x y : ℤ} {xs ys : List ℤ} → x ∷ xs ≡ y ∷ ys → xs ≡ ys
rest_same e = ap (λ (l : List ℤ). drop 1 l) e

module _ (T : Table) where
  run_block : (left n : ℕ) (values : List ℤ) (s : Source) (r : List ℤ × Option Task) (u : Source) → ac_block T left (Some (ended n)) (map ac_half values) s ≡ got r u → r.0 ≡ values
      → (ahead (map kind_of values) ≡ None) × (r.1 ≡ over (Some (ended n)))
  unfolding ac_block block_end task_at ahead
  run_block left n [] s r u e q = (refl, sym (ap (λ (p : List ℤ × Option Task). p.1) (got_both e).0))
  run_block left n (x ∷ values) s r u e q =
      let b = came _ (position (ended n) (ac_half x) s) r u e in
      let y : ℤ × Option Task = b.value in
      let o : y.1 ≡ Some (ended n) = stays n (ac_half x) s b.value b.source b.first in
      let d = came _ (ac_block T left y.1 (map ac_half values) b.source) r u b.then in
      let h : (y.0 ∷ d.value.0, d.value.1) ≡ r = (got_both d.then).0 in
      let f : y.0 ∷ d.value.0 ≡ x ∷ values = ap (λ (p : List ℤ × Option Task). p.0) h ∙ q in
      let i = run_block left n values b.source d.value d.source (sym (ap (λ (task : Option Task). ac_block T left task (map ac_half values) b.source) o) ∙ d.first) (rest_same f) in
      (no_new n x s b.value b.source b.first (first_same f) (map kind_of values) i.0, sym (ap (λ (p : List ℤ × Option Task). p.1) h) ∙ i.1)

  -- what a block's values are, where those behind it are as long
  front_same : (values ys rest more : List ℤ) → length ys ≡ length values → values ++ more ≡ ys ++ rest → (ys ≡ values) × (rest ≡ more)
  front_same values ys rest more l e = (
    sym (take-append_seam ys rest) ∙ (ap (λ (n : ℕ). take n (ys ++ rest)) l ∙ (ap (take (length values)) (sym e) ∙ take-append_seam values more)),
    sym (drop-append_seam ys rest) ∙ (ap (λ (n : ℕ). drop n (ys ++ rest)) l ∙ (ap (drop (length values)) (sym e) ∙ drop-append_seam values more)),
  )

  longest : (blocks : List (List ℤ)) (k n : ℕ) (s t : Source) → n < length blocks → ac_blocks T k (Some (ended n)) (map (map ac_half) blocks) s ≡ read (together blocks) t → suc n ≤ quiet (map (map kind_of) blocks)
  unfolding ac_blocks quiet
  longest [] k n s t l e = absurd (omega arith)
  longest (b ∷ bs) k n s t l e = go (longest bs (suc k)) (ac_block T (suc (length (map (map ac_half) bs))) (Some (ended n)) (map ac_half b) s) refl e
    where
      further : ((n : ℕ) (s t : Source) → n < length bs → ac_blocks T (suc k) (Some (ended n)) (map (map ac_half) bs) s ≡ read (together bs) t → suc n ≤ quiet (map (map kind_of) bs))
          → (n : ℕ) (u : Source) → n < suc (length bs) → ac_blocks T (suc k) (over (Some (ended n))) (map (map ac_half) bs) u ≡ read (together bs) t → suc n ≤ suc (quiet (map (map kind_of) bs))
      further ih zero u l e = omega arith
      further ih (suc m) u l e = let h = ih m u t (omega arith) e in omega arith

      go : ((n : ℕ) (s t : Source) → n < length bs → ac_blocks T (suc k) (Some (ended n)) (map (map ac_half) bs) s ≡ read (together bs) t → suc n ≤ quiet (map (map kind_of) bs))
          → (x : Out (List ℤ × Option Task)) → ac_block T (suc (length (map (map ac_half) bs))) (Some (ended n)) (map ac_half b) s ≡ x
          → in_block k (λ r t. onto r.0 (ac_blocks T (suc k) r.1 (map (map ac_half) bs) t)) x ≡ read (b ++ together bs) t
          → suc n ≤ unless_new (ahead (map kind_of b)) (quiet (map (map kind_of) bs))
      go ih (stopped x) q e = absurd (refusing_read e)
      go ih (got r u) q e =
          let f = fronted r.0 (b ++ together bs) (ac_blocks T (suc k) r.1 (map (map ac_half) bs) u) t e in
          let half : map (toward_zero 1) r.0 ≡ map ac_half b = half_block T _ (map ac_half b) (Some (ended n)) s r u q in
          let long : length r.0 ≡ length b = sym (length-map r.0 (toward_zero 1)) ∙ (ap length half ∙ length-map b ac_half) in
          let same = front_same b r.0 f.rest (together bs) long f.whole in
          let h = run_block _ n b s r u q same.0 in
          let w : ac_blocks T (suc k) (over (Some (ended n))) (map (map ac_half) bs) u ≡ read (together bs) t =
          sym (ap (λ (o : Option Task). ac_blocks T (suc k) o (map (map ac_half) bs) u) h.1) ∙ (f.after ∙ ap (λ (l : List ℤ). read l t) same.1) in
          rw h.0 (further ih n u l w)

pub longest_run : LongestRun
longest_run T k n blocks s t = longest T blocks k n s t

-- ---- an end run begins at once

module _ (n : ℕ) (later : List (List Kind)) where
  -- inside a run nothing but corrections is written
  run_marks : (kinds : List Kind) → write_block (Some (ended n)) kinds later ≡ (marks kinds, over (Some (ended n)))
  unfolding write_block
  run_marks [] = refl
  run_marks (keep b ∷ kinds) = rw (run_marks kinds)
  run_marks (still ∷ kinds) = rw (run_marks kinds)
  run_marks (fresh b ∷ kinds) = rw (run_marks kinds)

pub ends_at_once : EndsAtOnce
unfolding write_block plan
ends_at_once (keep b) kinds later e = rw (e, run_marks (quiet later) later kinds)
ends_at_once still kinds later e = rw (e, run_marks (quiet later) later kinds)
ends_at_once (fresh b) kinds later e = rw (e, run_marks (quiet later) later kinds)

-- ---- F0

pub sixteen_before_new : SixteenBeforeNew
unfolding plan
sixteen_before_new kinds later e = go (ahead kinds) refl e
  where
    ended_walk : {n : ℕ} → ended n ≡ walk 15 None → ⊥
    ended_walk e = let z : ◌≡◌ {A = ℕ} 0 1 = cc in omega arith

    told_walk : {n : ℕ} {b : Bool} → walk n (Some b) ≡ walk 15 None → ⊥
    told_walk e = let z : ◌≡◌ {A = ℕ} 0 1 = cc in omega arith

    far : (n : ℕ) (b c : Bool) → ltb n 16 ≡ c → cond c (walk n (Some b)) (walk 15 None) ≡ walk 15 None → 16 ≤ n
    far n b true t e = absurd (told_walk e)
    far n b false t e = ltb-false n 16 t

    go : (o : Option (ℕ × Bool)) → ahead kinds ≡ o → planned o (quiet later) ≡ walk 15 None → NewValueLater kinds
    go None q e = absurd (ended_walk e)
    go (Some p) q e = record { zeros = p.0; sign = p.1; coming = q; many = far p.0 p.1 (ltb p.0 16) refl e }
