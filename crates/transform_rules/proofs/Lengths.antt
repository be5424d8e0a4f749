-- How long and how large the dequantised block is, how long its samples and the picture are, and how large an index of the zigzag order and a quantiser are. Assumes nothing.
use mathlib.Core.Path.{◌≡◌}
use mathlib.Core.Logic.{⊎_elim}
use mathlib.Core.List.{List, [], ◌∷◌}
use Prim.Native.Nat.{ℕ, suc, ◌+◌, ◌*◌, ◌^◌, ◌<◌, ◌≤◌}
use native.Mathlib.Nat.{le_trans}
use native.Mathlib.Omega.{arith}
use borrow.Author.Tests.{leb-true}
use lib.Arith.{digits_div, digits_mod}
use lib.Dec.{leb, leb→le}
use lib.IntN.{ℤ, pos, nat_abs}
use lib.ListN.{length, get_or, get_or-eq_default}
use Rattle.laws.specs.Index.{tab}
use Rattle.std.specs.Prelude.{None}
use Rattle.laws.proofs.First.{first_none}
use Rattle.laws.proofs.Integers.{abs_prod_le, split}
use Rattle.laws.proofs.Lists.{length_tab, get_or_tab, join_length, each, every_first, every_rest}
use Rattle.transform_rules.specs.Samples.{block_samples, Products}
use Rattle.transform_rules.specs.Zigzag.{first_row, last_row, places_before, zigzag, zigzag_at}
use Rattle.transform_rules.specs.Picture.{times_quantiser, dequantised, centre, picture, InRange}
use Rattle.transform_rules.specs.Call.{is_quantiser, first_bad_quantiser}

pub block_length : (s : List ℤ) (middle : ℤ) → length (block_samples s middle) ≡ 64
unfolding block_samples
block_length s middle = length_tab 64 _

pub picture_length : (refinement blocks : ℕ) (values : List ℤ) (quantisers : List ℕ) → length (picture refinement blocks values quantisers) ≡ blocks * 64
unfolding picture
picture_length refinement blocks values quantisers = join_length 64 blocks _ (λ block. block_length (dequantised values quantisers block) (centre refinement))

pub zigzag_small : (p : ℕ) → p < 64 → zigzag_at p < 64
unfolding zigzag_at zigzag places_before first_row last_row
zigzag_small p h = leb→le (suc (zigzag_at p)) 64 (each 64 (λ k. leb (suc (zigzag_at k)) 64) tt p h)

pub zigzag_below : (v u : ℕ) → v < 8 → u < 8 → zigzag v u < 64
unfolding zigzag_at
zigzag_below v u hv hu = rw (digits_div v hu, digits_mod v hu) at (zigzag_small (v * 8 + u) (omega arith))

pub quantiser_small : (quantisers : List ℕ) → first_bad_quantiser quantisers ≡ None → (k : ℕ) → get_or quantisers k 0 ≤ 255
unfolding first_bad_quantiser is_quantiser
quantiser_small quantisers sound k =
    let q = get_or quantisers k 0 in
    ⊎_elim (λ (l : k < length quantisers). leb-true q 255 (every_first (leb q 255) [] (every_rest (leb 1 q) (leb q 255 ∷ []) (first_none (length quantisers) _ sound k l))))
    (λ (l : length quantisers ≤ k). rw (get_or-eq_default quantisers 0 {n = k} l) (omega arith))
    (split k (length quantisers))

module _ (values : List ℤ) (quantisers : List ℕ) (block : ℕ) (h : InRange values quantisers) where
  one : ℕ → ℤ
  one p = times_quantiser (get_or values (block * 64 + zigzag_at p) (pos 0)) (get_or quantisers (zigzag_at p) 0)

  one_small : (p : ℕ) → nat_abs (one p) ≤ 2 ^ 23
  unfolding one times_quantiser
  one_small p =
      let i = block * 64 + zigzag_at p in
      let z = zigzag_at p in
      le_trans (abs_prod_le (get_or values i (pos 0)) (pos (get_or quantisers z 0)) 32768 255 (h.valued i) (h.quantised z)) (omega arith)

  pub dequantised_small : Products (dequantised values quantisers block)
  unfolding dequantised one
  dequantised_small = record { long = length_tab 64 one; small = each_small }
    where
      each_small : (k : ℕ) → nat_abs (get_or (tab 64 one) k (pos 0)) ≤ 2 ^ 23
      each_small k =
          ⊎_elim (λ (l : k < 64). rw (get_or_tab 64 one (pos 0) k l) (one_small k))
          (λ (l : 64 ≤ k). rw (get_or-eq_default (tab 64 one) (pos 0) {n = k} (omega (arith, length_tab 64 one))) (omega arith))
          (split k 64)
