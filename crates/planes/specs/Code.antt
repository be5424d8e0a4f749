-- What the code's answers for planes stand for, and what its block readers promise.
use Rattle.bits.specs.declared.BitReader.{BitReader}
use Rattle.answers.specs.declared.Refusal.{Refusal}
use Rattle.std.specs.Prelude.{◌≡◌, List, ℕ, ◌≤◌, ℤ, pos, nat_abs, length, get_or, take, drop, Result, Ok, Err}
use Rattle.bits.specs.Code.{bits_in}
use Rattle.answers.specs.Verdict.{outcome_of}
use Rattle.plane_rules.specs.Plane.{Plane, read, refusing, closed}

-- no value is larger than any level allows
abbrev pub Small : List ℤ → Type 0
Small values = (k : ℕ) → nat_abs (get_or values k (pos 0)) ≤ 32768

-- N15: these values were read, and the reader stands behind them, or a refusal is given
unfoldable pub plane_of : List ℤ → BitReader → Result (Unit {0}) Refusal → Plane
plane_of values r (Ok u) = read values (bits_in r)
plane_of values r (Err f) = refusing f

-- the code's blocks are those of the definition: n values stand in the destination, and what lies past them is kept
pub record Ran (n : ℕ) (plane : Plane) (before after : List ℤ) (r : BitReader) (result : Result (Unit {0}) Refusal) : Type 0 where
  pub same : plane_of (take n after) r result ≡ plane
  pub kept : drop n after ≡ drop n before

-- the outcome is that of the plane closed, whatever its values
pub record Closes (count : ℕ) (r : BitReader) (result : Result ℕ Refusal) : Type 0 where
  pub told : (values : List ℤ) → length values ≡ count → result ≡ outcome_of (closed (read values (bits_in r)))
