-- One turn of the loop that reads a code: what is left to read gives what the whole gives. Assumes nothing.
use mathlib.Core.Path.{◌≡◌, refl}
use mathlib.Core.List.{◌∷◌}
use mathlib.Core.Bool.{Bool, true}
use Prim.Native.Nat.{ℕ, ◌+◌, ◌-◌, ◌*◌, ◌^◌, ◌≤◌, ◌<◌}
use native.Mathlib.Nat.{pow-suc}
use native.Mathlib.Numerals.{add-one}
use native.Mathlib.Omega.{arith}
use lib.Pow.{pow_mono}
use lib.ListN.{length, get_or, drop, drop_of_length-le}
use lib.Seq.{drop-cons, drop-drop, get_or-drop}
use borrow.Author.Tests.{lt-ltb, le-ltb}
use Rattle.bit_rules.specs.Digits.{bin}
use Rattle.bit_rules.specs.Source.{Source, Stop, got, stopped, stop, take_bit}
use Rattle.bit_rules.specs.Table.{Table, code_count, good_table}
use Rattle.bit_rules.specs.Read.{code_from, take_code}
use Rattle.bit_rules.proofs.Tables.{good, total_on}
use Rattle.bit_rules.proofs.Digits.{bin_small}

-- behind l lengths: `place` values belong to them
pub record Here (T : Table) (s₀ s : Source) (over place l : ℕ) : Type 0 where
  pub within : l ≤ length T.counts
  pub small : over < 2 ^ l
  pub places : place + code_count (drop l T.counts) ≡ length T.values
  pub same : code_from (drop l T.counts) (drop place T.values) over s ≡ take_code T s₀

pub here_first : (T : Table) → good_table T ≡ true → (s : Source) → Here T s s 0 0 0
unfolding take_code
here_first T g s = record { within = omega arith; small = omega arith; places = omega (arith, (good T g).all); same = refl }

module _ {T : Table} {s₀ s : Source} {over place l : ℕ} (h : Here T s₀ s over place l) where
  pub here_small : good_table T ≡ true → l < length T.counts → over < 32768
  here_small g k = omega (arith, h.small, pow_mono {i = l} {j = 15} (omega (arith, (good T g).sixteen)))

  -- sixteen bits and no code
  pub here_none : length T.counts ≤ l → stopped (stop 14 s.last) ≡ take_code T s₀
  unfolding code_from
  here_none k = rw (drop_of_length-le T.counts k) at h.same

  module _ (k : l < length T.counts) where
    next : drop l T.counts ≡ get_or T.counts l 0 ∷ drop (l + 1) T.counts
    next = rw (add-one l) (drop-cons T.counts l 0 k)

    pub here_stopped : {x : Stop} → stopped x ≡ take_bit s → stopped x ≡ take_code T s₀
    unfolding code_from
    here_stopped e = rw (next, ← e) at h.same

    module _ {b : Bool} {t : Source} (e : got b t ≡ take_bit s) where
      pub here_room : 2 * over + bin b < get_or T.counts l 0 → place + (2 * over + bin b) < length T.values
      here_room m = omega (arith, h.places, total_on T.counts l k)

      pub here_found : 2 * over + bin b < get_or T.counts l 0 → got (get_or T.values (place + (2 * over + bin b)) 0) t ≡ take_code T s₀
      unfolding code_from
      here_found m = rw (← (get_or-drop place T.values (2 * over + bin b) 0)) (rw (next, ← e, lt-ltb (2 * over + bin b) (get_or T.counts l 0) m) at h.same)

      pub here_on : get_or T.counts l 0 ≤ 2 * over + bin b → Here T s₀ t (2 * over + bin b - get_or T.counts l 0) (place + get_or T.counts l 0) (l + 1)
      unfolding code_from
      here_on m = record {
        within = omega arith;
        small = omega (arith, h.small, bin_small b, powers);
        places = omega (arith, h.places, total_on T.counts l k);
        same = rw (← (drop-drop (get_or T.counts l 0) place T.values)) (rw (next, ← e, le-ltb (2 * over + bin b) (get_or T.counts l 0) m) at h.same);
      }
        where
          powers : 2 ^ (l + 1) ≡ 2 ^ l * 2
          powers = rw (add-one l) (pow-suc 2 l)
