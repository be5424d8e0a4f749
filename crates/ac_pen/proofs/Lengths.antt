-- How many bits a code takes at most, and what tells a task. Assumes nothing.
use mathlib.Core.Path.{◌≡◌, ap}
use mathlib.Core.Bool.{Bool, true, false, cond}
use mathlib.Core.List.{List, [], ◌∷◌, map}
use Rattle.std.specs.Prelude.{Option, Some, None}
use Prim.Native.Nat.{ℕ, suc, ◌+◌, ◌-◌, ◌*◌, ◌^◌, ◌≤◌}
use native.Mathlib.Omega.{arith}
use lib.Dec.{ltb}
use lib.ListN.{length, length-append}
use Rattle.bit_rules.specs.Digits.{digits}
use Rattle.bit_rules.specs.Table.{Table, good_table}
use Rattle.bit_rules.specs.Write.{place_of, code_at, code_of, word}
use Rattle.bit_rules.proofs.Tables.{good}
use Rattle.bit_rules.proofs.Digits.{digits_length}
use Rattle.plane_rules.specs.Task.{Task, walk, ended}
use Rattle.plane_rules.specs.AcWrite.{code, raw, emit, class, spelled}
use Rattle.ac_pen.proofs.Tokens.{spelled_raw}
use Rattle.ac_pen.proofs.Classes.{class_high}

code_length : (counts : List ℕ) (first size k : ℕ) → length (code_at counts first (suc size) k) ≤ size + length counts
unfolding code_at
code_length [] first size k = omega arith
code_length (n ∷ counts) first size k = go (ltb k n) (code_length counts (2 * (first + n)) (suc size) (k - n))
  where
    go : (t : Bool) → length (code_at counts (2 * (first + n)) (suc (suc size)) (k - n)) ≤ suc size + length counts
        → length (cond t (digits (suc size) (first + k)) (code_at counts (2 * (first + n)) (suc (suc size)) (k - n))) ≤ size + suc (length counts)
    go true h = omega (arith, digits_length (suc size) (first + k))
    go false h = omega arith

found_length : (counts : List ℕ) (f : Option ℕ) → length (code_of counts f) ≤ length counts
found_length counts (Some k) = omega (arith, code_length counts 0 0 k)
found_length counts None = omega arith

module _ (T : Table) (g : good_table T ≡ true) where
  word_length : (v : ℕ) → length (word T v) ≤ 16
  unfolding word
  word_length v = omega (arith, found_length T.counts (place_of v T.values), (good T g).sixteen)

  pub code_bits : (v : ℕ) → length (spelled T (code v ∷ [])) ≤ 16
  unfolding spelled
  code_bits v = omega (arith, word_length v, length-append (word T v) [])

  pub emit_length : (t : Task) → length (spelled T (emit t)) ≤ 30
  unfolding emit spelled
  emit_length (walk n None) = omega (arith, word_length (16 * n), length-append (word T (16 * n)) [])
  emit_length (walk n (Some b)) = omega (arith, word_length (16 * n + 1), length-append (word T (16 * n + 1)) (b ∷ []))
  emit_length (ended n) =
      let bits = digits (class (suc n)) (suc n - 2 ^ class (suc n)) in
      omega (
        arith,
        word_length (16 * class (suc n)),
        length-append (word T (16 * class (suc n))) (spelled T (map raw bits)),
        ap length (spelled_raw T bits),
        digits_length (class (suc n)) (suc n - 2 ^ class (suc n)),
        class_high 14 (suc n),
      )
