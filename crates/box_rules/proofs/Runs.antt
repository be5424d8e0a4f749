-- Laws of `ones`, by what stands at a position.
use Prim.Native.Nat.{ℕ, suc, ◌+◌, ◌≤◌, ◌<◌}
use mathlib.Core.Path.{◌≡◌}
use mathlib.Core.List.{List}
use native.Mathlib.Numerals.{add-one}
use native.Mathlib.Omega.{arith}
use lib.ListN.{length, get_or, drop, drop_of_length-le}
use lib.Seq.{drop-cons}
use borrow.Author.Tests.{eq-eqb, ne_eqb}
use Rattle.box_rules.specs.Walk.{ones}

pub ones_on : (s : List ℕ) (m : ℕ) → m < length s → get_or s m 0 ≡ 255 → m + ones (drop m s) ≡ m + 1 + ones (drop (m + 1) s)
unfolding ones
ones_on s m h e =
    let f : ones (drop m s) ≡ suc (ones (drop (m + 1) s)) = rw (drop-cons s m 0 h, eq-eqb _ _ e, add-one) in
    omega arith

pub ones_off : (s : List ℕ) (m : ℕ) → m < length s → (get_or s m 0 ≡ 255 → ⊥) → m ≡ m + ones (drop m s)
unfolding ones
ones_off s m h e =
    let f : ones (drop m s) ≡ 0 = rw (drop-cons s m 0 h, ne_eqb _ _ e) in
    omega arith

pub ones_end : (s : List ℕ) (m : ℕ) → length s ≤ m → m ≡ m + ones (drop m s)
unfolding ones
ones_end s m h =
    let f : ones (drop m s) ≡ 0 = rw (drop_of_length-le s h) in
    omega arith
