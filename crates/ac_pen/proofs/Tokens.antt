-- Laws of tokens told one after another: what is put and what the table lacks. Assumes nothing.
use mathlib.Core.Path.{◌≡◌, refl, sym, ap, subst, ◌∙◌}
use mathlib.Core.Bool.{Bool, true, false, true≢false}
use mathlib.Core.List.{List, [], ◌∷◌, ◌++◌, append_assoc, append-nil, map}
use Prim.Native.Nat.{ℕ, suc, ◌+◌, ◌*◌, ◌/◌, ◌%◌, ◌≤◌, ◌<◌}
use native.Mathlib.Numerals.{add-one}
use native.Mathlib.Omega.{arith}
use borrow.Author.Tests.{eq-eqb, ne_eqb}
use Rattle.std.specs.Prelude.{Option, Some, None}
use Rattle.bit_putter.specs.Code.{Sound, Puts}
use Rattle.bit_rules.specs.Digits.{digits}
use Rattle.bit_putter.proofs.Putting.{puts_none, puts_then, Going, going_start, going_turn, going_end}
use Rattle.bit_rules.specs.Table.{Table}
use Rattle.bit_rules.specs.Write.{place_of, code_of, word}
use Rattle.code_entries.specs.Code.{absent, Entered}
use Rattle.plane_rules.specs.Task.{ended}
use Rattle.plane_rules.specs.AcWrite.{Token, code, raw, class, emit, or_else, lacking, spelled}
use Rattle.ac_tasks.specs.declared.Job.{Job}
use Rattle.ac_tasks.specs.declared.Job.TheVariants.{Leave, Set, Ended}
use Rattle.ac_plan.specs.Code.{Short}
use Rattle.ac_pen.specs.Code.{first_of, Told}
use Rattle.ac_pen.specs.declared.Pen.{Pen}
use Rattle.ac_pen.proofs.Classes.{run_bits}

-- ---- tokens in two parts

pub spelled_append : (T : Table) (a b : List Token) → spelled T (a ++ b) ≡ spelled T a ++ spelled T b
unfolding spelled
spelled_append T [] b = refl
spelled_append T (raw x ∷ a) b = ap (◌∷◌ x) (spelled_append T a b)
spelled_append T (code v ∷ a) b = ap (λ (l : List Bool). word T v ++ l) (spelled_append T a b) ∙ sym (append_assoc (word T v) (spelled T a) (spelled T b))

else_first : (v : ℕ) (f a b : Option ℕ) → or_else v f (first_of a b) ≡ first_of (or_else v f a) b
else_first v (Some k) a b = refl
else_first v None a b = refl

missing_append : (T : Table) (a b : List Token) → lacking T (a ++ b) ≡ first_of (lacking T a) (lacking T b)
unfolding lacking
missing_append T [] b = refl
missing_append T (raw x ∷ a) b = missing_append T a b
missing_append T (code v ∷ a) b =
    ap (or_else v (place_of v T.values)) (missing_append T a b) ∙ else_first v (place_of v T.values) (lacking T a) (lacking T b)

first_assoc : (a b c : Option ℕ) → first_of (first_of a b) c ≡ first_of a (first_of b c)
first_assoc (Some v) b c = refl
first_assoc None b c = refl

first_none : (a : Option ℕ) → first_of a None ≡ a
first_none (Some v) = refl
first_none None = refl

-- bits by themselves
pub spelled_raw : (T : Table) (bits : List Bool) → spelled T (map raw bits) ≡ bits
unfolding spelled
spelled_raw T [] = refl
spelled_raw T (b ∷ bits) = ap (◌∷◌ b) (spelled_raw T bits)

missing_raw : (T : Table) (bits : List Bool) → lacking T (map raw bits) ≡ None
unfolding lacking
missing_raw T [] = refl
missing_raw T (b ∷ bits) = missing_raw T bits

-- ---- what was told

module _ {T : Table} where
  pub told_none : {before : List ℕ} {p : Pen} → Sound p.putter → Told T before before p p []
  unfolding spelled lacking
  told_none {before} {p} s = record { put = puts_none s; lack = sym (first_none p.lack) }

  pub told_then : {a b c : List ℕ} {p q r : Pen} {xs ys : List Token} → Told T a b p q xs → Told T b c q r ys → Told T a c p r (xs ++ ys)
  told_then {p = p} {xs = xs} {ys = ys} f g = record {
    put = rw (spelled_append T xs ys) (puts_then f.put g.put);
    lack = g.lack ∙ ap (λ (x : Option ℕ). first_of x (lacking T ys)) f.lack ∙ first_assoc p.lack (lacking T xs) (lacking T ys) ∙ ap (first_of p.lack) (sym (missing_append T xs ys));
  }

  -- bits alone
  pub told_bits : {before after : List ℕ} {p r : Pen} (bits : List Bool) → Puts before after p.putter r.putter bits → r.lack ≡ p.lack
      → Told T before after p r (map raw bits)
  told_bits {p = p} bits f e =
      record { put = rw (spelled_raw T bits) f; lack = e ∙ sym (first_none p.lack) ∙ ap (first_of p.lack) (sym (missing_raw T bits)) }

-- ---- one code, by its entry

else_held : (v : ℕ) (f : Option ℕ) → absent f ≡ false → or_else v f None ≡ None
else_held v (Some k) e = refl
else_held v None e = absurd (true≢false e)

else_lacked : (v : ℕ) (f : Option ℕ) → absent f ≡ true → or_else v f None ≡ Some v
else_lacked v (Some k) e = absurd (true≢false (sym e))
else_lacked v None e = refl

module _ (T : Table) {before after : List ℕ} {p r : Pen} {v entry : ℕ} (e : Entered T.counts (place_of v T.values) entry) where
  -- the table holds it
  pub told_held : (entry ≡ 0 → ⊥) → Puts before after p.putter r.putter (digits (entry % 32) (entry / 32)) → r.lack ≡ p.lack → Told T before after p r (code v ∷ [])
  unfolding spelled lacking word
  told_held n f q = record {
    put = rw (append-nil (code_of T.counts (place_of v T.values)), ← e.same) f;
    lack = rw (else_held v (place_of v T.values) (sym e.none ∙ ne_eqb entry 0 n)) (q ∙ sym (first_none p.lack));
  }

  -- or lacks it
  pub told_lacked : entry ≡ 0 → Puts before after p.putter r.putter [] → r.lack ≡ first_of p.lack (Some v) → Told T before after p r (code v ∷ [])
  unfolding spelled lacking word digits
  told_lacked z f q = record {
    put = rw (append-nil (code_of T.counts (place_of v T.values)), ← (rw z at e.same)) f;
    lack = rw (else_lacked v (place_of v T.values) (sym e.none ∙ eq-eqb entry 0 z)) q;
  }

-- ---- a task that a code can tell

pub short_leave : {job : Job} {n : ℕ} → Short job → job ≡ Leave n → n < 16
short_leave h e = rw e at h

pub short_set : {job : Job} {n : ℕ} {b : Bool} → Short job → job ≡ Set n b → n < 16
short_set h e = rw e at h

pub short_ended : {job : Job} {n : ℕ} → Short job → job ≡ Ended n → n ≤ 1024
short_ended h e = rw e at h

-- ---- an end run: its code, then the bits

run_tokens : (n r : ℕ) → r ≡ class (n + 1) → code (16 * r) ∷ map raw (digits r (n + 1)) ≡ emit (ended n)
unfolding emit
run_tokens n r e = rw (e, add-one n) (ap (λ (l : List Bool). code (16 * class (suc n)) ∷ map raw l) (run_bits (suc n) (omega arith)))

pub told_run : {T : Table} {a b c : List ℕ} {p q s : Pen} (n r : ℕ) → r ≡ class (n + 1) → Told T a b p q (code (16 * r) ∷ [])
    → Puts b c q.putter s.putter (digits r (n + 1)) → s.lack ≡ q.lack → Told T a c p s (emit (ended n))
told_run {T} {a} {b} {c} {p} {q} {s} n r e f g h = subst (Told T a c p s) (run_tokens n r e) (told_then f (told_bits (digits r (n + 1)) g h))

-- ---- a loop that tells tokens: those still to tell come to what all of them come to

pub record Telling (T : Table) (before memory : List ℕ) (p q : Pen) (rest all : List Token) : Type 0 where
  pub going : Going before memory p.putter q.putter (spelled T rest) (spelled T all)
  pub lack : first_of q.lack (lacking T rest) ≡ first_of p.lack (lacking T all)

module _ {T : Table} {before : List ℕ} {p : Pen} where
  pub telling_start : {all : List Token} → Sound p.putter → Telling T before before p p all all
  telling_start s = record { going = going_start s; lack = refl }

  pub telling_turn : {memory after : List ℕ} {q r : Pen} {all : List Token} (xs rest : List Token) → Telling T before memory p q (xs ++ rest) all
      → Told T memory after q r xs → Telling T before after p r rest all
  telling_turn {q = q} xs rest g f = record {
    going = going_turn (spelled T xs) (spelled T rest) (rw (spelled_append T xs rest) at g.going) f.put;
    lack = ap (λ (x : Option ℕ). first_of x (lacking T rest)) f.lack ∙ first_assoc q.lack (lacking T xs) (lacking T rest) ∙ ap (first_of q.lack) (sym (missing_append T xs rest)) ∙ g.lack;
  }

  pub telling_end : {memory : List ℕ} {q : Pen} {all : List Token} → Telling T before memory p q [] all → Told T before memory p q all
  unfolding spelled lacking
  telling_end {q = q} g = record { put = going_end g.going; lack = sym (first_none q.lack) ∙ g.lack }
