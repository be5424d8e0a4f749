-- The laws of putting bits: whatever follows, memory and count come to the same. Assumes nothing.
use mathlib.Core.Path.{◌≡◌, refl, sym, ap, ap₂, ◌∙◌}
use mathlib.Core.List.{List, [], ◌∷◌, ◌++◌, append_assoc, append-nil}
use mathlib.Core.Bool.{Bool, true, false, cond}
use Prim.Native.Nat.{ℕ, zero, suc, ◌+◌, ◌-◌, ◌*◌, ◌%◌, ◌^◌, ◌≤◌, ◌<◌}
use native.Mathlib.Nat.{pow-suc}
use native.Mathlib.Numerals.{add-one}
use native.Mathlib.Omega.{arith}
use lib.Bits.{bit_and, bit_or, or_shifted}
use lib.Dec.{eqb}
use lib.ListN.{length, set, drop, length-append}
use lib.Pow.{pow_mono}
use lib.Seq.{sets, sets-eq}
use borrow.Author.Tests.{eq-eqb, ne_eqb}
use Rattle.bit_rules.specs.Digits.{bin}
use Rattle.bit_rules.specs.Pack.{stuffed, padded, packed, bytes_of}
use Rattle.bit_rules.proofs.Digits.{bin_small, moved_up}
use Rattle.bit_putter.specs.Code.{Sound, new_putter, Written, finishing, Puts, Ends}
use Rattle.bit_putter.specs.declared.Putter.{Putter}

-- ---- bytes, one after another

sets_append : (memory : List ℕ) (at : ℕ) (xs ys : List ℕ) → sets memory at (xs ++ ys) ≡ sets (sets memory at xs) (at + length xs) ys
sets_append memory at [] ys = let e : at + 0 ≡ at = omega arith in rw e
sets_append memory at (x ∷ xs) ys = let e : at + suc (length xs) ≡ suc at + length xs = omega arith in rw e (sets_append (set memory at x) (suc at) xs ys)

module _ (before : List ℕ) (at byte : ℕ) {one : List ℕ} (e : one ≡ set before at byte) where
  pub plain_put : (byte ≡ 255 → ⊥) → (one ≡ sets before at (stuffed byte [])) × (at + 1 ≡ at + length (stuffed byte []))
  unfolding stuffed
  plain_put ne = rw (ne_eqb byte 255 ne) (e, refl)

  pub ff_put : {two : List ℕ} → two ≡ set one (at + 1) 0 → byte ≡ 255 → (two ≡ sets before at (stuffed byte [])) × (at + 2 ≡ at + length (stuffed byte []))
  unfolding stuffed
  ff_put f ff = rw (eq-eqb byte 255 ff, f, e, add-one, ff) (refl, refl)

stuffed_split : (byte : ℕ) (rest : List ℕ) → stuffed byte rest ≡ stuffed byte [] ++ rest
unfolding stuffed
stuffed_split byte rest = go (eqb byte 255)
  where
    go : (t : Bool) → cond t (255 ∷ 0 ∷ rest) (byte ∷ rest) ≡ cond t (255 ∷ 0 ∷ []) (byte ∷ []) ++ rest
    go true = refl
    go false = refl

pub stuffed_short : (byte : ℕ) → length (stuffed byte []) ≤ 2
unfolding stuffed
stuffed_short byte = go (eqb byte 255)
  where
    go : (t : Bool) → length (cond t (255 ∷ 0 ∷ []) (byte ∷ [])) ≤ 2
    go true = omega arith
    go false = omega arith

-- memory and count behind these bytes, and that a byte was put before the others
abbrev pub laid : List ℕ → ℕ → List ℕ → Written
laid memory at bytes = record { memory = sets memory at bytes; count = at + length bytes }

pub byte_laid : (before : List ℕ) {after : List ℕ} (at : ℕ) {next : ℕ} (byte : ℕ) (rest : List ℕ) → after ≡ sets before at (stuffed byte []) → next ≡ at + length (stuffed byte [])
    → laid after next rest ≡ laid before at (stuffed byte rest)
byte_laid before {after} at {next} byte rest m e =
    sym (rw (stuffed_split byte rest, sets_append before at (stuffed byte []) rest, length-append, ← m, e) (ap₂ (λ (x : List ℕ) (n : ℕ). record { memory = x; count = n }) refl (omega arith)))

-- ---- the code's shift and join

pub small_held : (p : Putter) → Sound p → p.held < 128
small_held p s = let h : 2 ^ (7 - p.room) ≤ 2 ^ 7 = pow_mono {i = 7 - p.room} {j = 7} (omega arith) in omega (arith, s.held)

pub joined : (p : Putter) → Sound p → (b : Bool) → bit_or (bit_and p.held 127 * 2 % 256) (bin b) ≡ 2 * p.held + bin b
joined p s b = rw (moved_up p.held) (or_shifted (p.held % 128) 1 (bin b) (bin_small b) ∙ omega (arith, small_held p s))

-- ---- a bit

module _ {before : List ℕ} {p : Putter} (s : Sound p) (b : Bool) where
  -- it fills the byte
  pub put_full : {after : List ℕ} {at : ℕ} → p.room ≡ 0 → after ≡ sets before p.at (stuffed (2 * p.held + bin b) [])
      → at ≡ p.at + length (stuffed (2 * p.held + bin b) []) → Puts before after p (record { at = at; held = 0; room = 7 }) (b ∷ [])
  unfolding finishing packed
  put_full {after} {at} z m e = record {
    same = λ more. rw z (byte_laid before p.at (2 * p.held + bin b) (packed 0 7 more) m e);
    sound = record { room = omega arith; held = omega arith };
    near = rw e (omega (arith, stuffed_short (2 * p.held + bin b)));
  }

  -- it is held
  pub put_held : {v room : ℕ} → (p.room ≡ 0 → ⊥) → v ≡ 2 * p.held + bin b → room ≡ p.room - 1
      → Puts before before p (record { at = p.at; held = v; room = room }) (b ∷ [])
  unfolding finishing packed
  put_held {v} {room} nz e q = record {
    same = λ more. sym (ap (laid before p.at) (step more));
    sound = record { room = omega (arith, s.room); held = rw (e, q) (omega (arith, s.held, bin_small b, powers)) };
    near = omega arith;
  }
    where
      step : (more : List Bool) → packed p.held p.room (b ∷ more) ≡ packed v room more
      step more = go p.room room e q nz
        where
          go : (n m : ℕ) → v ≡ 2 * p.held + bin b → m ≡ n - 1 → (n ≡ 0 → ⊥) → packed p.held n (b ∷ more) ≡ packed v m more
          go zero m e q nz = absurd (nz refl)
          go (suc n) m e q nz = let k : m ≡ n = omega arith in rw (e, k)

      powers : 2 ^ (7 - (p.room - 1)) ≡ 2 ^ (7 - p.room) * 2
      powers = let k : 7 - (p.room - 1) ≡ suc (7 - p.room) = omega (arith, s.room) in rw k (pow-suc 2 (7 - p.room))

-- ---- the last byte

pub padded_on : (held room n : ℕ) → n < room → padded (2 * held + 1) (room - (n + 1)) ≡ padded held (room - n)
unfolding padded
padded_on held room n h = let e : room - n ≡ suc (room - (n + 1)) = omega arith in rw e

pub padded_end : (held room : ℕ) → room ≤ 0 → 2 * held + 1 ≡ padded held room
unfolding padded
padded_end held room h = let e : room ≡ 0 = omega arith in rw e

pub room_on : (held room n : ℕ) → room ≤ 7 → n < room → held < 2 ^ (7 - (room - n)) → 2 * held + 1 < 2 ^ (7 - (room - (n + 1)))
room_on held room n h l k =
    let e : 7 - (room - (n + 1)) ≡ suc (7 - (room - n)) = omega arith in
    rw e (omega (arith, pow-suc 2 (7 - (room - n))))

module _ {before : List ℕ} {p : Putter} where
  -- no bit is in hand
  pub end_empty : p.room ≡ 7 → Ends before before p p.at
  unfolding finishing packed
  end_empty e = record { same = rw e (ap (λ (n : ℕ). record { memory = before; count = n }) (omega arith)) }

  pub end_padded : {after : List ℕ} {count : ℕ} → (p.room ≡ 7 → ⊥) → after ≡ sets before p.at (stuffed (padded p.held p.room) [])
      → count ≡ p.at + length (stuffed (padded p.held p.room) []) → Ends before after p count
  unfolding finishing packed
  end_padded ne m e = record { same = rw (ne_eqb p.room 7 ne, m, e) }

-- ---- for callers

pub new_sound : Sound new_putter
new_sound = record { room = omega arith; held = omega arith }

pub puts_none : {before : List ℕ} {p : Putter} → Sound p → Puts before before p p []
puts_none s = record { same = λ more. refl; sound = s; near = omega arith }

pub puts_then : {a b c : List ℕ} {p q r : Putter} {xs ys : List Bool} → Puts a b p q xs → Puts b c q r ys → Puts a c p r (xs ++ ys)
puts_then {a} {b} {c} {p} {q} {r} {xs} {ys} f g = record {
  same = λ more. g.same more ∙ f.same (ys ++ more) ∙ ap (finishing a p) (sym (append_assoc xs ys more));
  sound = g.sound;
  near = omega (arith, f.near, g.near, length-append xs ys);
}

-- all bits were put and the last byte padded: the bytes stand in memory as far as they fit, and are counted
module _ {before after last : List ℕ} {p : Putter} {bits : List Bool} {count : ℕ} (f : Puts before after new_putter p bits) (e : Ends after last p count) where
  whole : record { memory = last; count = count } ≡ finishing before new_putter bits
  whole = e.same ∙ f.same [] ∙ ap (finishing before new_putter) (append-nil bits)

  pub all_counted : count ≡ length (bytes_of bits)
  unfolding finishing
  all_counted = ap (λ (w : Written). w.count) whole ∙ omega arith

  pub all_stored : length (bytes_of bits) ≤ length before → last ≡ bytes_of bits ++ drop (length (bytes_of bits)) before
  unfolding finishing
  all_stored h =
      let z : 0 + length (bytes_of bits) ≡ length (bytes_of bits) = omega arith in
      ap (λ (w : Written). w.memory) whole ∙ sets-eq (bytes_of bits) before 0 (omega arith) ∙ ap (λ (n : ℕ). bytes_of bits ++ drop n before) z

-- ---- a loop that puts bits: those still to put come to what all of them come to

pub record Going (before memory : List ℕ) (p q : Putter) (rest all : List Bool) : Type 0 where
  pub same : (more : List Bool) → finishing memory q (rest ++ more) ≡ finishing before p (all ++ more)
  pub sound : Sound q
  pub near : q.at + 2 * length rest ≤ p.at + 2 * length all

pub going_start : {before : List ℕ} {p : Putter} {all : List Bool} → Sound p → Going before before p p all all
going_start s = record { same = λ more. refl; sound = s; near = omega arith }

pub going_turn : {before memory after : List ℕ} {p q r : Putter} {all : List Bool} (xs rest : List Bool) → Going before memory p q (xs ++ rest) all
    → Puts memory after q r xs → Going before after p r rest all
going_turn {before} {memory} {after} {p} {q} {r} {all} xs rest g f = record {
  same = λ more. f.same (rest ++ more) ∙ ap (finishing memory q) (sym (append_assoc xs rest more)) ∙ g.same more;
  sound = f.sound;
  near = omega (arith, g.near, f.near, length-append xs rest);
}

pub going_end : {before memory : List ℕ} {p q : Putter} {all : List Bool} → Going before memory p q [] all → Puts before memory p q all
going_end g = record { same = g.same; sound = g.sound; near = omega (arith, g.near) }
