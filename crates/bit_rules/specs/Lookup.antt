-- K7, K8: a code looked up by three numbers of each length (T.81, F.2.2.3: MINCODE, MAXCODE, VALPTR). What is read is what `take_code` reads.
use Rattle.std.specs.Prelude.{◌≡◌, Bool, true, cond, List, [], ◌∷◌, ℕ, zero, suc, ◌+◌, ◌-◌, ◌*◌, ◌<◌, ltb, get_or, drop, Option, Some, None}
use Rattle.bit_rules.specs.Digits.{bin, digits}
use Rattle.bit_rules.specs.Source.{Source, take_bit}
use Rattle.bit_rules.specs.Reader.{Reader, ◌>>=◌, done, fail}
use Rattle.bit_rules.specs.Table.{Table}
use Rattle.bit_rules.specs.Read.{take_code}
use Rattle.bit_rules.specs.Write.{code_at}

-- K7: "the smallest and largest code of each length and the first value's position"; a length without codes has no largest, where T.81 has -1
pub record Length : Type 0 where
  pub smallest : ℕ
  pub largest : Option ℕ
  pub position : ℕ

-- K7: the largest of n codes, which begin at `smallest`
unfoldable pub largest_of : ℕ → ℕ → Option ℕ
largest_of smallest zero = None
largest_of smallest (suc n) = Some (smallest + n)

-- K7: a largest code plus one, and 0 where there is none: one number for either
unfoldable pub limit_of : Option ℕ → ℕ
limit_of None = 0
limit_of (Some largest) = suc largest

-- K7: "codes assigned by T.81 Annex C": the next code is `code`, the next value stands at `position`, and these are the counts of the lengths to come (T.81, Figure F.15)
unfoldable pub lengths_from : ℕ → ℕ → List ℕ → List Length
lengths_from code position [] = []
lengths_from code position (n ∷ counts) = record { smallest = code; largest = largest_of code n; position = position } ∷ lengths_from (2 * (code + n)) (position + n) counts

-- K7: the numbers of a table
abbrev pub lengths_of : Table → List Length
lengths_of T = lengths_from 0 0 T.counts

-- K7: what the numbers of length l + 1 say of the codes that Annex C assigns: value k of this length has the code k above the smallest, up to the largest; where there is none, there is no such value
pub record NumbersOf (counts : List ℕ) (l : ℕ) (here : Length) : Type 0 where
  pub codes : (k : ℕ) → k < get_or counts l 0 → code_at counts 0 1 (here.position + k) ≡ digits (suc l) (here.smallest + k)
  pub largest : (m : ℕ) → here.largest ≡ Some m → suc m ≡ here.smallest + get_or counts l 0
  pub none : here.largest ≡ None → get_or counts l 0 ≡ 0

pub record NumbersAreOfCodes : Type 0 where
  pub each : (T : Table) (l : ℕ) (here : Length) (longer : List Length) → drop l (lengths_of T) ≡ here ∷ longer → NumbersOf T.counts l here

-- K8: CODE > MAXCODE
unfoldable pub above : ℕ → Option ℕ → Bool
above code None = true
above code (Some largest) = ltb largest code

-- K8: the bits so far make `code`. One more bit, until they are no longer above the largest code of their length; the value then stands as far behind the first of its length
-- as the code is above the smallest (T.81, Figure F.16). 14 behind the last length.
unfoldable pub decode_from : List Length → List ℕ → ℕ → Reader ℕ
decode_from [] values code = fail 14
decode_from (here ∷ longer) values code = do
  b ← take_bit
  let k = 2 * code + bin b
  cond (above k here.largest) (decode_from longer values k) (done (get_or values (here.position + k - here.smallest) 0))

-- K8: the value of the next code, by the numbers
unfoldable pub decode : Table → Reader ℕ
decode T = decode_from (lengths_of T) T.values 0

-- K8: "The answers are the same for every table and bit string": a value with what is left, or 12, 13 or 14 with its offset
pub record AnswersAreTheSame : Type 0 where
  pub same : (T : Table) (s : Source) → decode T s ≡ take_code T s
