-- Laws of reading digits, by what stands at an index. Assumes nothing.
use Prim.Native.Nat.{ℕ, ◌+◌, ◌*◌, ◌≤◌, ◌<◌}
use mathlib.Core.Path.{◌≡◌}
use mathlib.Core.List.{List, []}
use native.Mathlib.Numerals.{add-one}
use lib.ListN.{length, get_or, drop}
use lib.Seq.{drop-cons}
use borrow.Author.Tests.{lt-ltb, le-ltb}
use Rattle.std.specs.Prelude.{Some, None}
use Rattle.asking.specs.Words.{digit, read_from}

module _ (base value : ℕ) (word : List ℕ) (i : ℕ) (l : i < length word) where
  pub read_large : 268435455 < value → read_from base value (drop i word) ≡ None
  unfolding read_from
  read_large h = rw (drop-cons word i 0 l, lt-ltb 268435455 value h)

  pub read_other : value ≤ 268435455 → base ≤ digit (get_or word i 0) → read_from base value (drop i word) ≡ None
  unfolding read_from
  read_other h g = rw (drop-cons word i 0 l, le-ltb 268435455 value h, le-ltb (digit (get_or word i 0)) base g)

  pub read_more : value ≤ 268435455 → digit (get_or word i 0) < base → read_from base value (drop i word) ≡ read_from base (value * base + digit (get_or word i 0)) (drop (i + 1) word)
  unfolding read_from
  read_more h g = rw (drop-cons word i 0 l, le-ltb 268435455 value h, lt-ltb (digit (get_or word i 0)) base g, add-one)

pub read_end : (base value : ℕ) (rest : List ℕ) → rest ≡ [] → read_from base value rest ≡ Some value
unfolding read_from
read_end base value rest e = rw e
