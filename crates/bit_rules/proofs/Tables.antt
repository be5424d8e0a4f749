-- The laws of a table's tests, in the terms that the code leaves. Assumes nothing.
use mathlib.Core.Path.{◌≡◌, ap}
use mathlib.Core.List.{List}
use mathlib.Core.Bool.{true, false}
use Prim.Native.Nat.{ℕ, suc, ◌+◌, ◌-◌, ◌*◌, ◌/◌, ◌^◌, ◌≤◌, ◌<◌}
use native.Mathlib.Nat.{le_of_suc-le-suc, mul-le-mul, pow-suc}
use native.Mathlib.Numerals.{add-one}
use native.Mathlib.Omega.{arith}
use lib.ListN.{length, get_or, drop, drop_of_length-le, length-drop}
use lib.Seq.{drop-cons}
use borrow.Author.Tests.{leb-true, eqb-true, ne_eqb, eq-eqb}
use Rattle.laws.proofs.Lists.{every_first, every_rest}
use Rattle.bit_rules.specs.Table.{Table, code_count, kraft, holds, distinct, good_table}

-- ---- from an index on

module _ (ns : List ℕ) (l : ℕ) where
  pub total_end : length ns ≤ l → code_count (drop l ns) ≡ 0
  unfolding code_count
  total_end h = rw (drop_of_length-le ns h)

  pub total_on : l < length ns → code_count (drop l ns) ≡ get_or ns l 0 + code_count (drop (l + 1) ns)
  unfolding code_count
  total_on h = rw (drop-cons ns l 0, add-one)

  kraft_end : length ns ≤ l → kraft (drop l ns) ≡ 0
  unfolding kraft
  kraft_end h = rw (drop_of_length-le ns h)

  pub kraft_on : l < length ns → kraft (drop l ns) ≡ get_or ns l 0 * 2 ^ (length ns - (l + 1)) + kraft (drop (l + 1) ns)
  unfolding kraft
  kraft_on h = rw (add-one l, drop-cons ns l 0, length-drop)

  pub holds_end : (v : ℕ) → length ns ≤ l → holds v (drop l ns) ≡ false
  unfolding holds
  holds_end v h = rw (drop_of_length-le ns h)

  pub holds_here : (v : ℕ) → l < length ns → get_or ns l 0 ≡ v → holds v (drop l ns) ≡ true
  unfolding holds
  holds_here v h e = rw (drop-cons ns l 0, eq-eqb _ _ e)

  pub holds_on : (v : ℕ) → l < length ns → (get_or ns l 0 ≡ v → ⊥) → holds v (drop l ns) ≡ holds v (drop (l + 1) ns)
  unfolding holds
  holds_on v h e = rw (drop-cons ns l 0, ne_eqb _ _ e, add-one)

  pub distinct_end : length ns ≤ l → distinct (drop l ns) ≡ true
  unfolding distinct
  distinct_end h = rw (drop_of_length-le ns h)

  pub distinct_no : l < length ns → holds (get_or ns l 0) (drop (l + 1) ns) ≡ true → distinct (drop l ns) ≡ false
  unfolding distinct
  distinct_no h e = rw (drop-cons ns l 0, ← add-one, e)

  pub distinct_on : l < length ns → holds (get_or ns l 0) (drop (l + 1) ns) ≡ false → distinct (drop l ns) ≡ distinct (drop (l + 1) ns)
  unfolding distinct
  distinct_on h e = rw (drop-cons ns l 0, ← add-one, e, add-one)

-- ---- the loops that add

pub record Summed (ns : List ℕ) (sum l : ℕ) : Type 0 where
  pub within : l ≤ length ns
  pub small : sum ≤ 255 * l
  pub same : sum + code_count (drop l ns) ≡ code_count ns

pub sum_turn : {ns : List ℕ} {sum l x : ℕ} → Summed ns sum l → l < length ns → x ≡ get_or ns l 0 → x < 256 → Summed ns (sum + x) (l + 1)
sum_turn {ns} {sum} {l} {x} a h e k = record { within = omega arith; small = omega arith; same = omega (arith, total_on ns l h, e) }

pub sum_end : {ns : List ℕ} {sum l : ℕ} → Summed ns sum l → length ns ≤ l → sum ≡ code_count ns
sum_end {ns} {sum} {l} a h = omega (arith, total_end ns l h)

pub product_small : (a w : ℕ) → a < 256 → w ≤ 32768 → a * w ≤ 8355840
product_small a w h k = mul-le-mul (le_of_suc-le-suc h) k

-- twice the weight is the power of the lengths left
pub record Weighed (ns : List ℕ) (sum weight l : ℕ) : Type 0 where
  pub within : l ≤ length ns
  pub small : sum ≤ 8355840 * l
  pub light : weight ≤ 32768
  pub power : weight ≡ 2 ^ (length ns - l) / 2
  pub same : sum + kraft (drop l ns) ≡ kraft ns

module _ {ns : List ℕ} {sum weight l : ℕ} (a : Weighed ns sum weight l) where
  pub weigh_turn : {x : ℕ} → l < length ns → x ≡ get_or ns l 0 → x < 256 → Weighed ns (sum + x * weight) (weight / 2) (l + 1)
  weigh_turn {x} h e k =
      let m : ℕ = length ns - (l + 1) in
      let s : length ns - l ≡ suc m = omega arith in
      let p : 2 ^ (length ns - l) ≡ 2 ^ m * 2 = rw s (pow-suc 2 m) in
      let w : weight ≡ 2 ^ m = omega (arith, a.power) in
      let q : x * weight ≤ 8355840 = product_small x weight k a.light in
      let r : x * weight ≡ get_or ns l 0 * 2 ^ m = rw (e, w) in
      record { within = omega arith; small = omega arith; light = omega arith; power = ap (λ (n : ℕ). n / 2) w; same = omega (arith, kraft_on ns l h, a.same) }

  pub weigh_end : length ns ≤ l → sum ≡ kraft ns
  weigh_end h = omega (arith, kraft_end ns l h, a.same)

-- ---- what a good table is worth

pub record Good (T : Table) : Type 0 where
  pub sixteen : length T.counts ≡ 16
  pub some : 1 ≤ length T.values
  pub bytes : length T.values ≤ 256
  pub all : code_count T.counts ≡ length T.values
  pub room : kraft T.counts ≤ 65535
  pub apart : distinct T.values ≡ true

pub good : (T : Table) → good_table T ≡ true → Good T
unfolding good_table
good T e =
    let e1 = every_rest _ _ e in
    let e2 = every_rest _ _ e1 in
    let e3 = every_rest _ _ e2 in
    let e4 = every_rest _ _ e3 in
    let e5 = every_rest _ _ e4 in
    record {
      sixteen = eqb-true (length T.counts) 16 (every_first _ _ e);
      some = leb-true 1 (length T.values) (every_first _ _ e1);
      bytes = leb-true (length T.values) 256 (every_first _ _ e2);
      all = eqb-true (code_count T.counts) (length T.values) (every_first _ _ e3);
      room = leb-true (kraft T.counts) 65535 (every_first _ _ e4);
      apart = every_first _ _ e5;
    }

pub weigh_start : (ns : List ℕ) → length ns ≡ 16 → Weighed ns 0 32768 0
weigh_start ns e = record { within = omega arith; small = omega arith; light = omega arith; power = rw e; same = omega arith }
