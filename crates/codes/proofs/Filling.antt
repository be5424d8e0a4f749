-- The loop that makes the numbers of a table's lengths: what is still to be stored makes the whole. Assumes nothing.
use mathlib.Core.Path.{◌≡◌, refl, ap, ◌∙◌}
use mathlib.Core.List.{List, [], ◌∷◌, append-nil}
use Prim.Native.Nat.{ℕ, suc, ◌+◌, ◌-◌, ◌*◌, ◌^◌, ◌≤◌, ◌<◌}
use native.Mathlib.Nat.{pow-suc, mul-le-mul_left}
use native.Mathlib.Numerals.{add-one}
use native.Mathlib.Omega.{arith}
use lib.Pow.{pow_pos}
use lib.ListN.{length, get_or, set, drop, drop_of_length-le}
use lib.Seq.{sets, length-sets, sets-eq, drop-cons}
use Rattle.bit_rules.specs.Table.{code_count, kraft}
use Rattle.bit_rules.specs.Lookup.{largest_of, limit_of, lengths_from}
use Rattle.codes.specs.Code.{numbers_of}
use Rattle.bit_rules.proofs.Tables.{total_on, kraft_on}

-- three for each length
numbers_length : (code position : ℕ) (counts : List ℕ) → length (numbers_of (lengths_from code position counts)) ≡ 3 * length counts
unfolding numbers_of lengths_from
numbers_length code position [] = refl
numbers_length code position (n ∷ counts) = omega (arith, numbers_length (2 * (code + n)) (position + n) counts)

-- a list stored over another of its length
stored_over : (vs old : List ℕ) → length old ≡ length vs → sets old 0 vs ≡ vs
stored_over vs old e =
    let z : 0 + length vs ≡ length old = omega arith in
    sets-eq vs old 0 (omega arith) ∙ rw (z, drop_of_length-le old {i = length old} (omega arith)) (append-nil vs)

-- behind l lengths: the next code, and the position of its value
pub record Filling (counts numbers : List ℕ) (code position l : ℕ) : Type 0 where
  pub sixteen : length counts ≡ 16
  pub within : l ≤ length counts
  pub long : length numbers ≡ 48
  pub low : code * 2 ^ (length counts - l) + 2 * kraft (drop l counts) ≤ 131070
  pub few : position + code_count (drop l counts) ≤ 256
  pub same : sets numbers (3 * l) (numbers_of (lengths_from code position (drop l counts))) ≡ numbers_of (lengths_from 0 0 counts)

pub fill_start : (counts numbers : List ℕ) → length numbers ≡ 48 → length counts ≡ 16 → kraft counts ≤ 65535 → code_count counts ≤ 256 → Filling counts numbers 0 0 0
fill_start counts numbers long e k c = record {
  sixteen = e;
  within = omega arith;
  long = long;
  low = omega arith;
  few = omega arith;
  same = stored_over (numbers_of (lengths_from 0 0 counts)) numbers (omega (arith, numbers_length 0 0 counts));
}

module _ {counts numbers : List ℕ} {code position l : ℕ} (a : Filling counts numbers code position l) where
  pub fill_end : length counts ≤ l → numbers ≡ numbers_of (lengths_from 0 0 counts)
  unfolding numbers_of lengths_from
  fill_end h = rw (drop_of_length-le counts h) at a.same

  module _ {n : ℕ} (h : l < length counts) (e : n ≡ get_or counts l 0) where
    next : drop l counts ≡ n ∷ drop (l + 1) counts
    next = rw (add-one l, e) (drop-cons counts l 0 h)

    -- a code of length l + 1 stands for as many of the 65,536 of length 16
    abbrev share : ℕ
    share = 2 ^ (length counts - (l + 1))

    doubled : 2 ^ (length counts - l) ≡ share * 2
    doubled = let m : length counts - l ≡ suc (length counts - (l + 1)) = omega arith in rw m (pow-suc 2 (length counts - (l + 1)))

    lower : 2 * (code + n) * share + 2 * kraft (drop (l + 1) counts) ≤ 131070
    lower =
        let p : code * 2 ^ (length counts - l) ≡ code * (share * 2) = ap (λ (x : ℕ). code * x) doubled in
        let q : n * share ≡ get_or counts l 0 * share = ap (λ (x : ℕ). x * share) e in
        omega (arith, a.low, kraft_on counts l h)

    pub fill_low : code + n ≤ 65535
    fill_low =
        let q : (code + n) * 1 ≤ (code + n) * share = mul-le-mul_left (code + n) (pow_pos (length counts - (l + 1))) in
        omega (arith, lower)

    pub fill_turn : Filling counts (set (set (set numbers (3 * l) code) (3 * l + 1) (limit_of (largest_of code n))) (3 * l + 2) position) (2 * (code + n)) (position + n) (l + 1)
    unfolding numbers_of lengths_from
    fill_turn = record {
      sixteen = a.sixteen;
      within = omega arith;
      long = rw (one, two) (length-sets numbers (3 * l) (code ∷ limit_of (largest_of code n) ∷ position ∷ []) ∙ a.long);
      low = lower;
      few = omega (arith, a.few, total_on counts l h, e);
      same = rw (one, two, three) (rw next at a.same);
    }
      where
        one : 3 * l + 1 ≡ suc (3 * l)
        one = omega arith

        two : 3 * l + 2 ≡ suc (suc (3 * l))
        two = omega arith

        three : 3 * (l + 1) ≡ suc (suc (suc (3 * l)))
        three = omega arith
