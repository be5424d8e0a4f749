-- Laws of the texts and of writing them. Assumes nothing.
use Prim.Native.Nat.{ℕ, zero, suc, ◌+◌, ◌*◌, ◌-◌, ◌/◌, ◌%◌, ◌^◌, ◌≤◌, ◌<◌}
use mathlib.Core.Path.{◌≡◌, refl, ap, ap₂, sym, subst, ◌∙◌}
use mathlib.Core.List.{List, [], ◌∷◌, ◌++◌}
use mathlib.Core.Logic.{⊎_elim}
use native.Mathlib.Omega.{arith}
use native.Mathlib.Numerals.{add-one}
use native.Mathlib.Nat.{zero-add}
use lib.ListN.{length, take, drop, set, length-append, length-set}
use lib.Seq.{set_out, sets, sets-eq}
use borrow.Author.Tests.{lt-ltb, le-ltb, le-leb, lt-leb}
use Rattle.answers.specs.Verdict.{given, refused, refusal}
use Rattle.answers.specs.declared.Refusal.{Refusal}
use Rattle.std.specs.Prelude.{Ok, Err}
use Rattle.box_rules.specs.declared.Head.{Head}
use Rattle.box_rules.specs.declared.Step.TheVariants.{End, Skip, Meet, Broken}
use Rattle.box_rules.specs.Walk.{step_at, steps_from, walk, ending}
use Rattle.box_rules.specs.Packets.{Packet, packets_in}
use Rattle.box_rules.proofs.Walking.{forward_meet, packets_end, packets_broken, packets_skip, packets_meet, packets_all, part_length}
use Rattle.box_rules.specs.Text.{line, lines, header, answer, listing, list_packets, dec, glyph, hex}
use Rattle.listing_text.specs.Code.{write, Wrote}
use Rattle.box_rules.proofs.Decimal.{less, dec_small, dec_more}

-- ---- writing

pub write_append : (a b d : List ℕ) (at : ℕ) → write (write d at a) (at + length a) b ≡ write d at (a ++ b)
unfolding write
write_append [] b d at = let e : at + 0 ≡ at = omega arith in rw e
write_append (x ∷ a) b d at = let e : at + suc (length a) ≡ at + 1 + length a = omega arith in rw e (write_append a b (set d at x) (at + 1))

pub write_length : (a d : List ℕ) (at : ℕ) → length (write d at a) ≡ length d
unfolding write
write_length [] d at = refl
write_length (x ∷ a) d at = write_length a (set d at x) (at + 1) ∙ length-set d at x

write_sets : (a d : List ℕ) (at : ℕ) → write d at a ≡ sets d at a
unfolding write
write_sets [] d at = refl
write_sets (x ∷ a) d at = rw (← add-one at) (write_sets a (set d at x) (at + 1))

pub write_fits : (a d : List ℕ) (at : ℕ) → at + length a ≤ length d → write d at a ≡ take at d ++ a ++ drop (at + length a) d
write_fits a d at h = write_sets a d at ∙ sets-eq a d at h

pub wrote_then : {d d₁ d₂ a b : List ℕ} {at r₁ r₂ : ℕ} → Wrote d d₁ at r₁ a → Wrote d₁ d₂ r₁ r₂ b → Wrote d d₂ at r₂ (a ++ b)
wrote_then {d} {d₁} {d₂} {a} {b} {at} {r₁} {r₂} u v = record {
  text = v.text ∙ ap₂ (λ (x : List ℕ) (k : ℕ). write x k b) u.text u.next ∙ write_append a b d at;
  next = omega (arith, u.next, v.next, length-append a b);
}

pub wrote_none : (d : List ℕ) (at : ℕ) → Wrote d d at at []
unfolding write
wrote_none d at = record { text = refl; next = omega arith }

pub wrote_byte : (d : List ℕ) (at x : ℕ) → Wrote d (set d at x) at (at + 1) (x ∷ [])
unfolding write
wrote_byte d at x = record { text = refl; next = refl }

pub wrote_past : (d : List ℕ) (at x : ℕ) → length d ≤ at → Wrote d d at (at + 1) (x ∷ [])
unfolding write
wrote_past d at x h = record { text = sym (set_out d at x h); next = refl }

pub wrote_length : {d d' b : List ℕ} {at r : ℕ} → Wrote d d' at r b → length d' ≡ length d
wrote_length {d} {d'} {b} {at} {r} w = ap length w.text ∙ write_length b d at

-- ---- decimal

tens : ℕ → ℕ
tens zero = 1
tens (suc k) = tens k * 10

dec_length_in : (k n : ℕ) → n < tens k * 10 → length (dec n) ≤ k + 1
unfolding tens
dec_length_in zero n h = rw (dec_small n (omega arith)) (omega arith)
dec_length_in (suc k) n h = ⊎_elim
    (λ t. rw (dec_small n t) (omega arith))
    (λ t. omega (arith, dec_length_in k (n / 10) (omega arith), ap length (dec_more n t), length-append (dec (n / 10)) ((48 + n % 10) ∷ [])))
    (less n 10)

-- a number of 64 bits has at most 20 digits
pub dec_length : (n : ℕ) → n < 2 ^ 64 → length (dec n) ≤ 20
unfolding tens
dec_length n h = dec_length_in 19 n (omega arith)

-- ---- hexadecimal

pub hex_more : (k n : ℕ) → (k ≡ 0 → ⊥) → hex k n ≡ hex (k - 1) (n / 16) ++ (glyph (n % 16) ∷ [])
unfolding hex
hex_more zero n h = absurd (h refl)
hex_more (suc k) n h = let e : suc k - 1 ≡ k = omega arith in rw e

pub hex_none : (k n : ℕ) → k ≡ 0 → hex k n ≡ []
unfolding hex
hex_none zero n h = refl
hex_none (suc k) n h = absurd (omega arith)

pub hex_length : (k n : ℕ) → length (hex k n) ≡ k
unfolding hex
hex_length zero n = refl
hex_length (suc k) n = length-append (hex k (n / 16)) (glyph (n % 16) ∷ []) ∙ omega (arith, hex_length k (n / 16))

pub dec_shorter : (n : ℕ) → 10 ≤ n → length (dec n) ≡ length (dec (n / 10)) + 1
dec_shorter n h = ap length (dec_more n h) ∙ length-append (dec (n / 10)) ((48 + n % 10) ∷ [])

-- ---- writing piece by piece: what is left to write at `to` of d is the whole at `at` of d₀

pub record Going (d : List ℕ) (to : ℕ) (rest d₀ : List ℕ) (at : ℕ) (all : List ℕ) : Type 0 where
  pub text : write d to rest ≡ write d₀ at all
  pub next : to + length rest ≡ at + length all
  pub size : length d ≡ length d₀

pub going_start : (d : List ℕ) (at : ℕ) (all : List ℕ) → Going d at all d at all
going_start d at all = record { text = refl; next = refl; size = refl }

pub going_more : {d d' rest d₀ all a : List ℕ} {to at r : ℕ} → Going d to rest d₀ at all → Wrote d d' to r a → (b : List ℕ) → rest ≡ a ++ b → Going d' r b d₀ at all
going_more {d} {d'} {rest} {d₀} {all} {a} {to} {at} {r} g w b e = record {
  text = ap₂ (λ (x : List ℕ) (k : ℕ). write x k b) w.text w.next ∙ write_append a b d to ∙ ap (write d to) (sym e) ∙ g.text;
  next = omega (arith, w.next, g.next, ap length e, length-append a b);
  size = wrote_length w ∙ g.size;
}

pub going_same : {d rest rest' d₀ all : List ℕ} {to at : ℕ} → Going d to rest d₀ at all → rest ≡ rest' → Going d to rest' d₀ at all
going_same {d} {rest} {rest'} {d₀} {all} {to} {at} g e = subst (λ (x : List ℕ). Going d to x d₀ at all) e g

pub going_done : {d rest d₀ all : List ℕ} {to at : ℕ} → Going d to rest d₀ at all → rest ≡ [] → Wrote d₀ d at to all
unfolding write
going_done {d} {rest} {d₀} {all} {to} {at} g e = record {
  text = ap (write d to) (sym e) ∙ g.text;
  next = omega (arith, g.next, ap length e);
}

-- ---- the lines of the packets from a position on

module _ (file : List ℕ) (at : ℕ) where
  pub lines_end : step_at file at ≡ End → lines (packets_in file (steps_from file at)) ≡ []
  unfolding lines
  lines_end e = ap lines (packets_end file at e)

  pub lines_broken : {r : Refusal} → step_at file at ≡ Broken r → lines (packets_in file (steps_from file at)) ≡ []
  unfolding lines
  lines_broken e = ap lines (packets_broken file at e)

  pub lines_skip : {n : ℕ} → step_at file at ≡ Skip n → lines (packets_in file (steps_from file at)) ≡ lines (packets_in file (steps_from file n))
  lines_skip e = ap lines (packets_skip file at e)

  pub lines_meet : {head : Head} {start len n : ℕ} → step_at file at ≡ Meet head start len n
      → lines (packets_in file (steps_from file at)) ≡ line head.instance head.number len head.kind ++ lines (packets_in file (steps_from file n))
  unfolding lines
  lines_meet {head} {start} {len} {n} e =
      let f = forward_meet file at e in
      ap lines (packets_meet file at e)
      ∙ ap (λ (k : ℕ). line head.instance head.number k head.kind ++ lines (packets_in file (steps_from file n))) (part_length file start len (omega arith))

-- ---- the listing, case by case

module _ (file : List ℕ) where
  pub listing_long : 65536 < length file → listing file ≡ header ++ answer 20 0
  unfolding listing
  listing_long h = rw (lt-ltb 65536 (length file) h)

  pub listing_refused : {r : Refusal} → length file ≤ 65536 → ending (walk file) ≡ Err r → listing file ≡ header ++ answer r.number r.place
  unfolding listing
  listing_refused h e = rw (le-ltb 65536 (length file) h, e)

  pub listing_good : {count : ℕ} → length file ≤ 65536 → ending (walk file) ≡ Ok count → listing file ≡ header ++ (lines (packets_in file (steps_from file 2)) ++ answer 0 0)
  unfolding listing
  listing_good {count} h e =
      rw (le-ltb 65536 (length file) h, e)
      (ap (λ (ps : List Packet). header ++ (lines ps ++ answer 0 0)) (packets_all file count e))

module _ (file : List ℕ) {d after : List ℕ} {r : ℕ} (w : Wrote d after 0 r (listing file)) where
  pub listed_short : length after < r → list_packets file (length d) ≡ refused (refusal 9 r)
  unfolding list_packets
  listed_short h =
      let n : length (listing file) ≡ r = omega (arith, w.next) in
      rw (n, lt-leb r (length d) (omega (arith, wrote_length w)))

  pub listed_fits : r ≤ length after → (list_packets file (length d) ≡ given (listing file)) × (r ≡ length (listing file)) × (after ≡ listing file ++ drop (length (listing file)) d)
  unfolding list_packets
  listed_fits h =
      let n : r ≡ length (listing file) = omega (arith, w.next) in (
        rw (le-leb (length (listing file)) (length d) (omega (arith, wrote_length w))),
        n,
        w.text ∙ write_fits (listing file) d 0 (omega (arith, wrote_length w)) ∙ ap (λ (k : ℕ). listing file ++ drop k d) (zero-add (length (listing file))),
      )
