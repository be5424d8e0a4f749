-- Demand 2's refined coefficients, value by value. Assumes nothing.
use mathlib.Core.Path.{◌≡◌, refl, sym, ap, subst, ◌∙◌}
use mathlib.Core.Logic.{inl, inr}
use mathlib.Core.Bool.{Bool, true, false}
use mathlib.Core.List.{List, [], ◌∷◌, ◌++◌, map, map-append}
use Rattle.std.specs.Prelude.{Option, Some, None}
use Prim.Native.Nat.{ℕ, zero, suc, ◌+◌, ◌*◌, ◌/◌, ◌<◌}
use native.Mathlib.Omega.{arith}
use lib.IntN.{ℤ, pos, negsuc}
use lib.ListN.{length, get_or, drop, length-drop, take-append-drop}
use Rattle.bit_rules.specs.Source.{Source, Stop, start, Out, got, stopped, take_bit}
use Rattle.bit_rules.specs.Reader.{Reader, and_then}
use Rattle.bit_rules.specs.Table.{Table}
use Rattle.bit_rules.proofs.Took.{Took, took}
use Rattle.plane_rules.specs.Plane.{Plane, read, refusing, onto, in_block}
use Rattle.plane_rules.specs.Dc.{new_dc, dc_blocks}
use Rattle.plane_rules.specs.Task.{Task, walk, ended, at_zero}
use Rattle.plane_rules.specs.AcRead.{task_at, corrected, position, block_end, ac_block, cut, ac_blocks}
use Rattle.plane_rules.specs.Levels.{toward_zero}
use Rattle.answers.specs.declared.Refusal.{Refusal}
use Rattle.plane_rules.proofs.DcBlocks.{dc_first}
use Rattle.demands.specs.Written.{together}
use Rattle.demands.specs.Two.{carrying, all_bits, DcValuesAre, AcValuesAre}

-- ---- the bits of a source

-- those that are left, in order
abbrev bits_left : Source → List Bool
bits_left s = s.pending ++ all_bits (carrying false s.coming)

pub got_both : {A : Type 0} {a b : A} {s t : Source} → got a s ≡ got b t → (a ≡ b) × (s ≡ t)
got_both e = (cc, cc)

pub stopped_got : {A : Type 0} {b : A} {x : Stop} {t : Source} → stopped x ≡ got b t → ⊥
stopped_got e = let z : ◌≡◌ {A = ℕ} 0 1 = cc in omega arith

next_bit : (s : Source) (b : Bool) (t : Source) → take_bit s ≡ got b t → bits_left s ≡ b ∷ bits_left t
unfolding carrying all_bits
next_bit s b t e = go (subst (Took s) e (took s))
  where
    go : Took s (got b t) → bits_left s ≡ b ∷ bits_left t
    go (inl h) = rw (h.pending, h.coming)
    go (inr (inl h)) = rw (h.pending, h.coming, h.plain, h.bits)
    go (inr (inr h)) = rw (h.pending, h.coming, h.bits)

-- ---- a plane that was read

pub refusing_read : {r : Refusal} {ys : List ℤ} {t : Source} → refusing r ≡ read ys t → ⊥
refusing_read e = let z : ◌≡◌ {A = ℕ} 0 1 = cc in omega arith

-- values in front of those that follow
pub record Fronted (values ys : List ℤ) (p : Plane) (t : Source) : Type 0 where
  pub rest : List ℤ
  pub after : p ≡ read rest t
  pub whole : ys ≡ values ++ rest

pub fronted : (values ys : List ℤ) (p : Plane) (t : Source) → onto values p ≡ read ys t → Fronted values ys p t
unfolding onto
fronted values ys (read more s) t e =
    let q : values ++ more ≡ ys = cc in
    let r : s ≡ t = cc in
    record { rest = more; after = ap (read more) r; whole = sym q }
fronted values ys (refusing r) t e = absurd (refusing_read e)

-- ---- DC

dc_each : (values : List ℤ) (k : ℕ) (s : Source) (ys : List ℤ) (t : Source) → dc_blocks k values s ≡ read ys t
    → (b : ℕ) → b < length values → get_or ys b (pos 0) ≡ new_dc (get_or values b (pos 0)) (get_or (bits_left s) b false)
unfolding dc_blocks
dc_each [] k s ys t e b h = absurd (omega arith)
dc_each (v ∷ values) k s ys t e b h = go (dc_each values (suc k)) (take_bit s) refl (sym (dc_first k v values s) ∙ e) b h
  where
    at : (c : Bool) (u : Source) (rest : List ℤ) → ys ≡ (new_dc v c ∷ []) ++ rest → bits_left s ≡ c ∷ bits_left u
        → ((b : ℕ) → b < length values → get_or rest b (pos 0) ≡ new_dc (get_or values b (pos 0)) (get_or (bits_left u) b false))
        → (b : ℕ) → b < suc (length values) → get_or ys b (pos 0) ≡ new_dc (get_or (v ∷ values) b (pos 0)) (get_or (bits_left s) b false)
    at c u rest q w ih zero h = rw (q, w)
    at c u rest q w ih (suc b) h = rw (q, w) (ih b (omega arith))

    go : ((s : Source) (ys : List ℤ) (t : Source) → dc_blocks (suc k) values s ≡ read ys t → (b : ℕ) → b < length values → get_or ys b (pos 0) ≡ new_dc (get_or values b (pos 0)) (get_or (bits_left s) b false))
        → (o : Out Bool) → take_bit s ≡ o → in_block k (λ b t. onto (new_dc v b ∷ []) (dc_blocks (suc k) values t)) o ≡ read ys t
        → (b : ℕ) → b < suc (length values) → get_or ys b (pos 0) ≡ new_dc (get_or (v ∷ values) b (pos 0)) (get_or (bits_left s) b false)
    go ih (stopped x) q e b h = absurd (refusing_read e)
    go ih (got c u) q e b h =
        let f = fronted (new_dc v c ∷ []) ys (dc_blocks (suc k) values u) t e in
        at c u f.rest f.whole (next_bit s c u q) (ih u f.rest t f.after) b h

pub dc_values_are : DcValuesAre
unfolding new_dc
dc_values_are plane blocks values bytes room ys h b l = dc_each values 0 (start bytes) ys h.left h.refined b (let n = h.long in omega arith)

-- ---- AC: half of what a position becomes, toward zero, is what it was

half_zero : (t : Task) → toward_zero 1 (at_zero t) ≡ pos 0
unfolding toward_zero
half_zero (walk zero None) = refl
half_zero (walk zero (Some true)) = refl
half_zero (walk zero (Some false)) = refl
half_zero (walk (suc n) sign) = refl
half_zero (ended n) = refl

half_corrected : (c : ℤ) (b : Bool) → toward_zero 1 (corrected c b) ≡ c
unfolding toward_zero
half_corrected (pos n) true = ap pos (omega arith)
half_corrected (pos n) false = ap pos (omega arith)
half_corrected (negsuc n) true = let e : suc (2 * n + 1 + 1) / 2 ≡ suc n = omega arith in rw e
half_corrected (negsuc n) false = let e : suc (2 * n + 1 + 0) / 2 ≡ suc n = omega arith in rw e

-- a reader behind another: what the first gave
pub record Came {A B : Type 0} (f : A → Reader B) (o : Out A) (r : B) (u : Source) : Type 0 where
  pub value : A
  pub source : Source
  pub first : o ≡ got value source
  pub then : f value source ≡ got r u

pub came : {A B : Type 0} (f : A → Reader B) (o : Out A) (r : B) (u : Source) → and_then f o ≡ got r u → Came f o r u
came f (got a s) r u e = record { value = a; source = s; first = refl; then = e }
came f (stopped x) r u e = absurd (stopped_got e)

half_position : (t : Task) (c : ℤ) (s : Source) (x : ℤ × Option Task) (u : Source) → position t c s ≡ got x u → toward_zero 1 x.0 ≡ c
unfolding position
half_position t (pos zero) s x u e = let h = (got_both e).0 in rw (← h) (half_zero t)
half_position t (pos (suc n)) s x u e = let w = came _ (take_bit s) x u e in let h = (got_both w.then).0 in rw (← h) (half_corrected (pos (suc n)) w.value)
half_position t (negsuc n) s x u e = let w = came _ (take_bit s) x u e in let h = (got_both w.then).0 in rw (← h) (half_corrected (negsuc n) w.value)

-- ---- blocks

empty : (values : List ℤ) → length values ≡ 0 → [] ≡ values
empty [] e = refl
empty (v ∷ values) e = absurd (omega arith)

cut_together : (n : ℕ) (values : List ℤ) → length values ≡ 63 * n → together (cut n values) ≡ values
unfolding cut
cut_together zero values e = empty values (omega arith)
cut_together (suc n) values e =
    let d : length (drop 63 values) ≡ 63 * n = let l = length-drop 63 values in omega arith in
    rw (cut_together n (drop 63 values) d) (take-append-drop 63 values)

module _ (codes : Table) where
  end_empty : (o : Option Task) (s : Source) (r : List ℤ × Option Task) (u : Source) → block_end o s ≡ got r u → r.0 ≡ []
  unfolding block_end
  end_empty None s r u e = let h = (got_both e).0 in rw (← h)
  end_empty (Some (ended n)) s r u e = let h = (got_both e).0 in rw (← h)
  end_empty (Some (walk n sign)) s r u e = absurd (stopped_got e)

  pub half_block : (left : ℕ) (values : List ℤ) (o : Option Task) (s : Source) (r : List ℤ × Option Task) (u : Source) → ac_block codes left o values s ≡ got r u → map (toward_zero 1) r.0 ≡ values
  unfolding ac_block
  half_block left [] o s r u e = rw (end_empty o s r u e)
  half_block left (c ∷ values) o s r u e =
      let a = came _ (task_at codes left o s) r u e in
      let b = came _ (position a.value c a.source) r u a.then in
      let d = came _ (ac_block codes left b.value.1 values b.source) r u b.then in
      let h = (got_both d.then).0 in
      let one : toward_zero 1 b.value.0 ≡ c = half_position a.value c a.source b.value b.source b.first in
      let more : map (toward_zero 1) d.value.0 ≡ values = half_block left values b.value.1 b.source d.value d.source d.first in
      rw (← h, one, more)

  half_blocks : (bs : List (List ℤ)) (k : ℕ) (o : Option Task) (s : Source) (ys : List ℤ) (t : Source) → ac_blocks codes k o bs s ≡ read ys t → map (toward_zero 1) ys ≡ together bs
  unfolding ac_blocks
  half_blocks [] k o s ys t e = let q : [] ≡ ys = cc in rw (← q)
  half_blocks (b ∷ bs) k o s ys t e = go (half_blocks bs (suc k)) (ac_block codes (suc (length bs)) o b s) refl e
    where
      go : ((o : Option Task) (s : Source) (ys : List ℤ) (t : Source) → ac_blocks codes (suc k) o bs s ≡ read ys t → map (toward_zero 1) ys ≡ together bs)
          → (x : Out (List ℤ × Option Task)) → ac_block codes (suc (length bs)) o b s ≡ x
          → in_block k (λ r t. onto r.0 (ac_blocks codes (suc k) r.1 bs t)) x ≡ read ys t → map (toward_zero 1) ys ≡ b ++ together bs
      go ih (stopped x) q e = absurd (refusing_read e)
      go ih (got r u) q e =
          let f = fronted r.0 ys (ac_blocks codes (suc k) r.1 bs u) t e in
          rw f.whole (map-append (toward_zero 1) r.0 f.rest ∙ rw (half_block (suc (length bs)) b o s r u q, ih r.1 u f.rest t f.after))

half_at : (ys : List ℤ) (i : ℕ) → get_or (map (toward_zero 1) ys) i (pos 0) ≡ toward_zero 1 (get_or ys i (pos 0))
unfolding toward_zero
half_at [] i = refl
half_at (y ∷ ys) zero = refl
half_at (y ∷ ys) (suc i) = half_at ys i

pub ac_values_are : AcValuesAre
ac_values_are plane blocks codes values bytes room ys h i l =
    let e : map (toward_zero 1) ys ≡ values = half_blocks codes (cut blocks values) 0 None (start bytes) ys h.left h.refined ∙ cut_together blocks values h.long in
    sym (half_at ys i) ∙ ap (λ (zs : List ℤ). get_or zs i (pos 0)) e
