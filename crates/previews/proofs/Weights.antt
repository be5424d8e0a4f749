-- The weights taken by rows of frequencies and by one quarter are the definition's, and how large their sums are on the way. Assumes nothing.
use mathlib.Core.Path.{◌≡◌, sym, ap, ap₂, ◌∙◌}
use mathlib.Core.Logic.{⊎_elim}
use mathlib.Core.List.{List}
use Prim.Native.Nat.{ℕ, ◌+◌, ◌-◌, ◌*◌, ◌/◌, ◌%◌, ◌^◌, ◌<◌, ◌≤◌}
use native.Mathlib.Nat.{le_trans, mul-le-mul, mul-le-mul_right}
use native.Mathlib.Omega.{arith}
use lib.Arith.{digits_div, digits_mod}
use lib.IntN.{nat_abs}
use lib.ListN.{length, get_or, get_or-eq_default}
use Rattle.laws.specs.Index.{total_to, tab}
use Rattle.laws.specs.Apart.{apart_rounded}
use Rattle.laws.proofs.Integers.{abs_prod, split}
use Rattle.laws.proofs.Lists.{length_tab, get_or_tab, tab_ext}
use Rattle.laws.proofs.Totals.{total_ext, total_factor, total_small}
use Rattle.transform_rules.specs.Cosines.{kernel}
use Rattle.transform_rules.specs.Zigzag.{zigzag, zigzag_at}
use Rattle.preview_rules.specs.Owed.{weight, owed, owed_block}
use Rattle.previews.specs.Code.{magnitude, row_table, along, reach_table, quarter, fold, unfolded, Quantised, Few}
use Rattle.previews.proofs.Tables.{magnitude_small, mirrored, fold_small}

-- a bound on each entry of a table holds past its end too
table_small : (most n : ℕ) (f : ℕ → ℕ) → ((k : ℕ) → k < n → f k ≤ most) → (k : ℕ) → get_or (tab n f) k 0 ≤ most
table_small most n f h k =
    ⊎_elim (λ (l : k < n). rw (get_or_tab n f 0 k l) (h k l))
    (λ (l : n ≤ k). rw (get_or-eq_default (tab n f) 0 {n = k} (omega (arith, length_tab n f))) (omega arith))
    (split k n)

-- ---- how large

-- the first n terms along a row of numbers that are at most `most`
pub terms_small : (most : ℕ) (numbers : List ℕ) → ((k : ℕ) → get_or numbers k 0 ≤ most) → (x v n : ℕ) → x < 8 → n ≤ 8
    → total_to n (λ k. magnitude x k * get_or numbers (v * 8 + k) 0) ≤ 8 * (8192 * most)
terms_small most numbers small x v n hx h =
    le_trans (total_small (8192 * most) n _ (λ k hk. mul-le-mul (magnitude_small x k hx (omega arith)) (small (v * 8 + k)))) (mul-le-mul_right (8192 * most) h)

pub along_small : (numbers : List ℕ) → Few numbers → (x v : ℕ) → x < 8 → along numbers x v ≤ 1095216660480
unfolding along
along_small numbers q x v hx = terms_small 16711680 numbers q.few x v 8 hx (omega arith)

module _ (quantisers : List ℕ) (q : Quantised quantisers) where
  rows_small : (k : ℕ) → get_or (row_table quantisers) k 0 ≤ 255
  unfolding row_table
  rows_small = table_small 255 64 (λ p. get_or quantisers (zigzag_at p) 0) (λ k h. q.small (zigzag_at k))

  pub rows_few : Few (row_table quantisers)
  rows_few = record { few = λ k. le_trans (rows_small k) (omega arith) }

  pub reaches_few : Few (reach_table (row_table quantisers))
  unfolding reach_table along
  reaches_few = record {
    few = table_small 16711680 32 (λ p. along (row_table quantisers) (p / 8) (p % 8)) (λ p h. terms_small 255 (row_table quantisers) rows_small (p / 8) (p % 8) 8 (omega arith) (omega arith));
  }

pub reaches_long : (rows : List ℕ) → length (reach_table rows) ≡ 32
unfolding reach_table
reaches_long rows = length_tab 32 _

-- ---- the definition

module _ (quantisers : List ℕ) where
  -- what the row frequency v brings, with the quantisers in zigzag order
  abbrev brought : ℕ → ℕ → ℕ
  brought x v = total_to 8 (λ u. magnitude x u * get_or quantisers (zigzag v u) 0)

  row_at : (v u : ℕ) → v < 8 → u < 8 → get_or (row_table quantisers) (v * 8 + u) 0 ≡ get_or quantisers (zigzag v u) 0
  unfolding row_table zigzag_at
  row_at v u hv hu = get_or_tab 64 (λ p. get_or quantisers (zigzag_at p) 0) 0 (v * 8 + u) (omega arith) ∙ rw (digits_div v hu, digits_mod v hu)

  -- a column brings what its mirror does
  reach_is : (x v : ℕ) → x < 8 → v < 8 → along (row_table quantisers) (fold x) v ≡ brought x v
  unfolding along
  reach_is x v hx hv = total_ext 8 _ _ (λ u hu. ap₂ (λ (m q : ℕ). m * q) (mirrored x u hx hu) (row_at v u hv hu))

  reach_at : (x v : ℕ) → x < 4 → v < 8 → get_or (reach_table (row_table quantisers)) (x * 8 + v) 0 ≡ along (row_table quantisers) x v
  unfolding reach_table
  reach_at x v hx hv = get_or_tab 32 (λ p. along (row_table quantisers) (p / 8) (p % 8)) 0 (x * 8 + v) (omega arith) ∙ rw (digits_div x hv, digits_mod x hv)

  -- |K(x,u) K(y,v)| is |K(y,v)| times |K(x,u)|, and the first is the same along a row
  by_rows : (y x : ℕ) → weight quantisers y x ≡ total_to 8 (λ v. magnitude y v * brought x v)
  unfolding weight magnitude
  by_rows y x =
      total_ext 8 _ _ (λ v hv.
      total_ext 8 _ (λ u. nat_abs (kernel y v) * (nat_abs (kernel x u) * get_or quantisers (zigzag v u) 0))
      (λ u hu. ap (λ n. n * get_or quantisers (zigzag v u) 0) (abs_prod (kernel x u) (kernel y v)) ∙ omega arith)
      ∙ total_factor (nat_abs (kernel y v)) 8 _)

  weight_is : (y x : ℕ) → y < 8 → x < 8 → along (reach_table (row_table quantisers)) (fold y) (fold x) ≡ weight quantisers y x
  unfolding along
  weight_is y x hy hx =
      total_ext 8 _ _ (λ v hv. ap₂ (λ (m n : ℕ). m * n) (mirrored y v hy hv) (reach_at (fold x) v (fold_small x hx) hv ∙ reach_is x v hx hv)) ∙ sym (by_rows y x)

  place_is : (left y x : ℕ) → y < 8 → x < 8 → get_or (quarter (2 ^ left) (reach_table (row_table quantisers))) (fold y * 4 + fold x) 0 ≡ owed left quantisers y x
  unfolding quarter owed
  place_is left y x hy hx =
      let fy = fold_small y hy in
      let fx = fold_small x hx in
      get_or_tab 16 (λ p. apart_rounded (2 ^ left) ((2 ^ left - 1) * along (reach_table (row_table quantisers)) (p / 4) (p % 4)) (2 ^ 28)) 0 (fold y * 4 + fold x) (omega arith)
      ∙ ap₂ (λ (a b : ℕ). apart_rounded (2 ^ left) ((2 ^ left - 1) * along (reach_table (row_table quantisers)) a b) (2 ^ 28)) (digits_div (fold y) fx) (digits_mod (fold y) fx)
      ∙ ap (λ w. apart_rounded (2 ^ left) ((2 ^ left - 1) * w) (2 ^ 28)) (weight_is y x hy hx)

  pub owed_is : (left : ℕ) → unfolded (quarter (2 ^ left) (reach_table (row_table quantisers))) ≡ owed_block left quantisers
  unfolding unfolded owed_block
  owed_is left = tab_ext 64 _ _ (λ p h. place_is left (p / 8) (p % 8) (omega arith) (omega arith))
