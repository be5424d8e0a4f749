-- What `take_bit` and `only_padding` give of a reader, case by case, in the terms that the code's tests leave. Assumes nothing.
use mathlib.Core.Path.{◌≡◌, refl, sym, ap, ◌∙◌}
use mathlib.Core.List.{List, [], ◌∷◌}
use mathlib.Core.Bool.{Bool, true, false}
use Prim.Native.Nat.{ℕ, zero, suc, ◌+◌, ◌-◌, ◌*◌, ◌/◌, ◌%◌, ◌≤◌, ◌<◌}
use native.Mathlib.Numerals.{add-one, sub-one}
use native.Mathlib.Omega.{arith}
use lib.Bits.{bit_and}
use lib.Dec.{T, eqb, leb, leb-zero, leb-suc-zero, leb-suc-suc}
use lib.ListN.{length, get_or, drop, drop_of_length-le}
use lib.Seq.{drop-cons}
use borrow.Author.Tests.{eq-eqb, ne_eqb}
use Rattle.laws.specs.Index.{every}
use Rattle.laws.proofs.Lists.{each}
use Rattle.bit_rules.specs.Digits.{digits}
use Rattle.bit_rules.specs.Source.{Out, stopped, stop, take_bit, take_from, next_byte, after_ff, opened, no_byte, only_padding}
use Rattle.bit_rules.proofs.Digits.{moved_up}
use Rattle.std.specs.Prelude.{Ok}
use Rattle.bits.specs.Code.{highs, bits_in, opened_at, read_as, read_by}
use Rattle.bits.specs.declared.BitReader.{BitReader}

-- ---- the bits of a byte from the top are its digits: one test over all bytes

same_bits : List Bool → List Bool → Bool
same_bits [] [] = true
same_bits [] (y ∷ ys) = false
same_bits (x ∷ xs) [] = false
same_bits (true ∷ xs) (true ∷ ys) = same_bits xs ys
same_bits (true ∷ xs) (false ∷ ys) = false
same_bits (false ∷ xs) (true ∷ ys) = false
same_bits (false ∷ xs) (false ∷ ys) = same_bits xs ys

same_list : (xs ys : List Bool) → T (same_bits xs ys) → xs ≡ ys
unfolding same_bits
same_list [] [] t = refl
same_list [] (y ∷ ys) t = absurd t
same_list (x ∷ xs) [] t = absurd t
same_list (true ∷ xs) (true ∷ ys) t = ap (λ (l : List Bool). true ∷ l) (same_list xs ys t)
same_list (true ∷ xs) (false ∷ ys) t = absurd t
same_list (false ∷ xs) (true ∷ ys) t = absurd t
same_list (false ∷ xs) (false ∷ ys) t = ap (λ (l : List Bool). false ∷ l) (same_list xs ys t)

pub highs_digits : (byte : ℕ) → byte < 256 → highs 8 byte ≡ digits 8 byte
unfolding highs digits same_bits
highs_digits byte h = same_list (highs 8 byte) (digits 8 byte) (each 256 (λ v. same_bits (highs 8 v) (digits 8 v)) tt byte h)

-- ---- a bit of the byte in hand

-- the bit, and the reader behind it, when a byte was opened
abbrev opened_bit : BitReader → ℕ → ℕ → ℕ → ℕ → Out Bool
opened_bit r at left byte last = read_by (opened_at r at left byte last) (Ok (eqb (byte / 128) 1))

held_bit : (r : BitReader) (at n byte last : ℕ) → 0 < n → opened_bit r at (n - 1) byte last ≡ take_from (highs n byte) (drop at r.«data».now) at last
unfolding read_as take_from highs bits_in
held_bit r at zero byte last h = absurd (omega arith)
held_bit r at (suc n) byte last h = rw sub-one

-- the first bit of a byte
first_bit : (r : BitReader) (at byte offset : ℕ) → byte < 256 → opened_bit r at 7 byte offset ≡ opened offset byte (drop at r.«data».now) at
unfolding read_as opened highs bits_in digits
first_bit r at byte offset h = let e = highs_digits byte h in cc

module _ (r : BitReader) where
  abbrev bytes : List ℕ
  bytes = r.«data».now

  pub held : 0 < r.left → opened_bit r r.at (r.left - 1) r.byte r.last ≡ take_bit (bits_in r)
  unfolding take_bit bits_in
  held h = held_bit r r.at r.left r.byte r.last h

  -- ---- none is in hand, and a byte is read
  module _ (empty : r.left ≤ 0) where
    next : take_bit (bits_in r) ≡ next_byte (drop r.at bytes) r.at
    unfolding take_bit bits_in highs take_from
    next = let e : r.left ≡ 0 = omega arith in rw e

    pub at_end : length bytes ≤ r.at → stopped (stop 12 r.at) ≡ take_bit (bits_in r)
    unfolding next_byte
    at_end h = sym (next ∙ rw (drop_of_length-le bytes h))

    module _ (more : r.at < length bytes) where
      here : take_bit (bits_in r) ≡ next_byte (get_or bytes r.at 0 ∷ drop (r.at + 1) bytes) r.at
      here = next ∙ rw (add-one, ← drop-cons bytes r.at 0)

      pub plain : get_or bytes r.at 0 < 256 → (get_or bytes r.at 0 ≡ 255 → ⊥) → opened_bit r (r.at + 1) 7 (get_or bytes r.at 0) r.at ≡ take_bit (bits_in r)
      unfolding next_byte
      plain small ne = first_bit r (r.at + 1) (get_or bytes r.at 0) r.at small ∙ sym (here ∙ rw (ne_eqb _ _ ne))

      module _ (ff : get_or bytes r.at 0 ≡ 255) where
        escaped : take_bit (bits_in r) ≡ after_ff (drop (r.at + 1) bytes) r.at
        unfolding next_byte
        escaped = here ∙ rw (eq-eqb _ _ ff)

        pub ff_end : length bytes ≤ r.at + 1 → stopped (stop 12 (r.at + 1)) ≡ take_bit (bits_in r)
        unfolding after_ff
        ff_end h = sym (escaped ∙ rw (drop_of_length-le bytes h))

        module _ (two : r.at + 1 < length bytes) where
          pair : take_bit (bits_in r) ≡ after_ff (get_or bytes (r.at + 1) 0 ∷ drop (r.at + 2) bytes) r.at
          pair = let e : suc (r.at + 1) ≡ r.at + 2 = omega arith in escaped ∙ rw (drop-cons bytes (r.at + 1) 0, e)

          pub ff_marker : (get_or bytes (r.at + 1) 0 ≡ 0 → ⊥) → stopped (stop 13 r.at) ≡ take_bit (bits_in r)
          unfolding after_ff
          ff_marker ne = let e : get_or bytes (r.at + 1) 0 ≡ suc (get_or bytes (r.at + 1) 0 - 1) = omega arith in sym (pair ∙ rw e)

          pub ff_zero : get_or bytes (r.at + 1) 0 ≡ 0 → opened_bit r (r.at + 2) 7 255 r.at ≡ take_bit (bits_in r)
          unfolding after_ff
          ff_zero z = first_bit r (r.at + 2) 255 r.at (omega arith) ∙ sym (pair ∙ rw z)

-- ---- the padding

highs_step : (n byte : ℕ) → 0 < n → highs n byte ≡ eqb (byte / 128) 1 ∷ highs (n - 1) (byte % 128 * 2)
unfolding highs
highs_step zero byte h = absurd (omega arith)
highs_step (suc n) byte h = rw sub-one

pub ones_stop : (n byte : ℕ) → 0 < n → (byte / 128 ≡ 1 → ⊥) → every (highs n byte) ≡ false
unfolding every
ones_stop n byte h z = rw (highs_step n byte, ne_eqb _ _ z)

pub ones_on : (n byte : ℕ) → 0 < n → byte / 128 ≡ 1 → every (highs (n - 1) (bit_and byte 127 * 2 % 256)) ≡ every (highs n byte)
unfolding every
ones_on n byte h z = rw (highs_step n byte, eq-eqb _ _ z, moved_up byte)

pub ones_end : (n byte : ℕ) → n ≤ 0 → true ≡ every (highs n byte)
unfolding every highs
ones_end n byte h = let e : n ≡ 0 = omega arith in rw e

none_left : (bytes : List ℕ) (at : ℕ) → leb (length bytes) at ≡ no_byte (drop at bytes)
none_left [] zero = refl
none_left [] (suc at) = leb-zero (suc at)
none_left (x ∷ bytes) zero = leb-suc-zero (length bytes)
none_left (x ∷ bytes) (suc at) = leb-suc-suc (length bytes) at ∙ none_left bytes at

module _ (r : BitReader) (t : Bool) (e : t ≡ every (highs r.left r.byte)) where
  pub padding_yes : t ≡ true → leb (length r.«data».now) r.at ≡ only_padding (bits_in r)
  unfolding only_padding bits_in
  padding_yes h = let f : every (highs r.left r.byte) ≡ true = sym e ∙ h in none_left r.«data».now r.at ∙ rw f

  pub padding_no : t ≡ false → false ≡ only_padding (bits_in r)
  unfolding only_padding bits_in
  padding_no h = let f : every (highs r.left r.byte) ≡ false = sym e ∙ h in rw f
