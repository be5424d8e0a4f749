-- Annex F's lookup reads what Annex C's codes say, for every table and every source of bits. Assumes nothing.
use mathlib.Core.Path.{◌≡◌, refl, ap, subst}
use mathlib.Core.Bool.{Bool, true, false, cond}
use mathlib.Core.List.{List, [], ◌∷◌}
use mathlib.Core.Logic.{◌⊎◌, inl, inr}
use Rattle.std.specs.Prelude.{Option, Some, None}
use Prim.Native.Nat.{ℕ, zero, suc, ◌+◌, ◌-◌, ◌*◌, ◌≤◌, ◌<◌}
use native.Mathlib.Omega.{arith}
use lib.Dec.{ltb}
use lib.ListN.{length, get_or, take, drop}
use lib.Seq.{drop-drop, get_or-drop}
use borrow.Author.Tests.{lt-ltb, le-ltb}
use Rattle.laws.proofs.Integers.{split}
use Rattle.bit_rules.specs.Digits.{bin, digits}
use Rattle.bit_rules.specs.Source.{Source, Out, got, stopped, take_bit}
use Rattle.bit_rules.specs.Reader.{Reader, and_then, done}
use Rattle.bit_rules.specs.Table.{code_count}
use Rattle.bit_rules.specs.Read.{code_from, take_code}
use Rattle.bit_rules.specs.Write.{code_at}
use Rattle.bit_rules.specs.Lookup.{Length, largest_of, limit_of, lengths_from, above, decode_from, decode, NumbersAreOfCodes, AnswersAreTheSame}

-- ---- codes against the limit of their length

module _ (code : ℕ) where
  pub below_limit : (largest : Option ℕ) → code < limit_of largest → above code largest ≡ false
  unfolding limit_of above
  below_limit None h = absurd (omega arith)
  below_limit (Some m) h = le-ltb m code (omega arith)

  pub from_limit : (largest : Option ℕ) → limit_of largest ≤ code → above code largest ≡ true
  unfolding limit_of above
  from_limit None h = refl
  from_limit (Some m) h = lt-ltb m code (omega arith)

-- n codes from `first` on have the limit first + n, and no codes have 0
module _ (first : ℕ) where
  pub limit_some : (n : ℕ) → (n ≡ 0 → ⊥) → first + n ≡ limit_of (largest_of first n)
  unfolding limit_of largest_of
  limit_some zero h = absurd (h refl)
  limit_some (suc n) h = omega arith

  pub limit_most : (n : ℕ) → limit_of (largest_of first n) ≤ first + n
  unfolding limit_of largest_of
  limit_most zero = omega arith
  limit_most (suc n) = omega arith

  pub limit_least : (n code : ℕ) → first ≤ code → limit_of (largest_of first n) ≤ code → first + n ≤ code
  unfolding limit_of largest_of
  limit_least zero code h k = omega arith
  limit_least (suc n) code h k = omega arith

-- ---- from a length on, whose codes begin at `first` and their values at `position`

module _ (counts values : List ℕ) (position first n : ℕ) where
  -- what is read where the bits make a code of this length, or one that is above them
  abbrev by_numbers : ℕ → Reader ℕ
  by_numbers code = cond (above code (largest_of first n)) (decode_from (lengths_from (2 * (first + n)) (position + n) counts) values code) (done (get_or values (position + code - first) 0))

  abbrev by_codes : ℕ → Reader ℕ
  by_codes k = cond (ltb k n) (done (get_or (drop position values) k 0)) (code_from counts (drop n (drop position values)) (k - n))

  turn : (code k : ℕ) → code ≡ first + k → (t : Source)
      → (n ≤ k → decode_from (lengths_from (2 * (first + n)) (position + n) counts) values code t ≡ code_from counts (drop (position + n) values) (k - n) t)
      → by_numbers code t ≡ by_codes k t
  turn code k e t later = go (split k n)
    where
      there : position + (first + k) - first ≡ position + k
      there = omega arith

      go : (k < n) ⊎ (n ≤ k) → by_numbers code t ≡ by_codes k t
      go (inl h) =
          let l : first + n ≡ limit_of (largest_of first n) = limit_some first n (λ z. omega arith) in
          rw (e, below_limit (first + k) (largest_of first n) (omega arith), lt-ltb k n h, there, get_or-drop position values k 0)
      go (inr h) =
          rw (e, from_limit (first + k) (largest_of first n) (omega (arith, limit_most first n)), le-ltb k n h, drop-drop n position values) (rw e at (later h))

same_from : (counts values : List ℕ) (code position first over : ℕ) → 2 * code ≡ first + 2 * over → (s : Source)
    → decode_from (lengths_from first position counts) values code s ≡ code_from counts (drop position values) over s
unfolding lengths_from decode_from code_from
same_from [] values code position first over e s = refl
same_from (n ∷ counts) values code position first over e s = go (take_bit s)
    (λ b t. turn counts values position first n (2 * code + bin b) (2 * over + bin b) (omega arith) t
    (λ h. same_from counts values (2 * code + bin b) (position + n) (2 * (first + n)) (2 * over + bin b - n) (omega arith) t))
  where
    go : (o : Out Bool) → ((b : Bool) (t : Source) → by_numbers counts values position first n (2 * code + bin b) t ≡ by_codes counts values position first n (2 * over + bin b) t)
        → and_then (λ b. by_numbers counts values position first n (2 * code + bin b)) o ≡ and_then (λ b. by_codes counts values position first n (2 * over + bin b)) o
    go (got b t) f = f b t
    go (stopped x) f = refl

pub answers_are_the_same : AnswersAreTheSame
unfolding decode take_code
answers_are_the_same = record { same = λ T s. same_from T.counts T.values 0 0 0 0 (omega arith) s }

-- ---- the numbers are those of Annex C's codes

some_largest : (code n m : ℕ) → largest_of code n ≡ Some m → suc m ≡ code + n
unfolding limit_of largest_of
some_largest code zero m e = absurd (omega (arith, ap limit_of e))
some_largest code (suc n) m e = omega (arith, ap limit_of e)

none_largest : (code n : ℕ) → largest_of code n ≡ None → n ≡ 0
unfolding limit_of largest_of
none_largest code zero e = refl
none_largest code (suc n) e = absurd (omega (arith, ap limit_of e))

-- from a length on, whose codes have `size` bits and begin at `code`
record Figured (counts : List ℕ) (code position size l : ℕ) (here : Length) : Type 0 where
  behind : here.position ≡ position + code_count (take l counts)
  codes : (k : ℕ) → k < get_or counts l 0 → code_at counts code size (code_count (take l counts) + k) ≡ digits (size + l) (here.smallest + k)
  largest : (m : ℕ) → here.largest ≡ Some m → suc m ≡ here.smallest + get_or counts l 0
  none : here.largest ≡ None → get_or counts l 0 ≡ 0

module _ (n : ℕ) (counts : List ℕ) (code position size : ℕ) where
  abbrev first : Length
  first = record { smallest = code; largest = largest_of code n; position = position }

  figured_first : Figured (n ∷ counts) code position size 0 first
  unfolding code_at code_count
  figured_first = record {
    behind = omega arith;
    codes = λ k h. let z : 0 + k ≡ k = omega arith in let s : size + 0 ≡ size = omega arith in rw (z, s, lt-ltb k n h);
    largest = some_largest code n;
    none = none_largest code n;
  }

  module _ {l : ℕ} {here : Length} (f : Figured counts (2 * (code + n)) (position + n) (suc size) l here) where
    figured_next : Figured (n ∷ counts) code position size (suc l) here
    unfolding code_at code_count
    figured_next = record {
      behind = omega (arith, f.behind);
      codes = λ k h.
          let past : n + code_count (take l counts) + k - n ≡ code_count (take l counts) + k = omega arith in
          let bits : size + suc l ≡ suc size + l = omega arith in
          rw (le-ltb (n + code_count (take l counts) + k) n (omega arith), past, bits) (f.codes k h);
      largest = f.largest;
      none = f.none;
    }

figured : (counts : List ℕ) (code position size l : ℕ) (here : Length) (longer : List Length) → drop l (lengths_from code position counts) ≡ here ∷ longer → Figured counts code position size l here
unfolding lengths_from
figured [] code position size zero here longer e = absurd (omega (arith, ap length e))
figured [] code position size (suc l) here longer e = absurd (omega (arith, ap length e))
figured (n ∷ counts) code position size zero here longer e =
    let g : first n counts code position size ≡ here = cc in
    subst (Figured (n ∷ counts) code position size 0) g (figured_first n counts code position size)
figured (n ∷ counts) code position size (suc l) here longer e = figured_next n counts code position size (figured counts (2 * (code + n)) (position + n) (suc size) l here longer e)

pub numbers_are_of_codes : NumbersAreOfCodes
numbers_are_of_codes = record {
  each = λ T l here longer e.
      let f = figured T.counts 0 0 1 l here longer e in
      let at : here.position ≡ code_count (take l T.counts) = omega (arith, f.behind) in
      let size : suc l ≡ 1 + l = omega arith in
      record { codes = λ k h. rw (at, size) (f.codes k h); largest = f.largest; none = f.none };
}
