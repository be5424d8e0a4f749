-- Demand 2's samples, what is owed and merged results, value by value. Assumes nothing.
use mathlib.Core.Path.{◌≡◌, ap, ◌∙◌}
use mathlib.Core.List.{List}
use Prim.Native.Nat.{ℕ, ◌+◌, ◌*◌, ◌/◌, ◌%◌, ◌^◌, ◌<◌}
use native.Mathlib.Omega.{arith}
use lib.Arith.{digits_div, digits_mod}
use lib.IntN.{ℤ, pos, ◌+ℤ◌, ◌*ℤ◌}
use lib.ListN.{get_or}
use lib.Signed.{shr_z}
use Rattle.laws.specs.Index.{tab}
use Rattle.laws.proofs.Lists.{length_tab, get_or_tab}
use Rattle.laws.proofs.Spread.{get_or_join}
use Rattle.laws.proofs.Sums.{sum_ext}
use Rattle.transform_rules.specs.Cosines.{kernel}
use Rattle.transform_rules.specs.Samples.{product, row_sum, double_sum, rounded, sample, block_samples}
use Rattle.transform_rules.specs.Zigzag.{zigzag, zigzag_at}
use Rattle.transform_rules.specs.Picture as blockwise
use Rattle.transform_rules.specs.Picture.{times_quantiser, dequantised, centre}
use Rattle.transform_rules.proofs.Lengths.{block_length}
use Rattle.preview_rules.specs.Owed.{owed, owed_block}
use Rattle.merge_rules.specs.Pixels.{component}
use Rattle.merge_rules.specs.Picture.{merged_at, planes, merged_picture}
use Rattle.demands.specs.Two.{sample_at, SamplesAre, OwedAre, ResultsAre}

-- ---- samples

module _ (values : List ℤ) (quantisers : List ℕ) (block : ℕ) where
  -- S of row frequency v and column frequency u
  one_product : (v u : ℕ) → v < 8 → u < 8
      → get_or (dequantised values quantisers block) (v * 8 + u) (pos 0) ≡ get_or values (block * 64 + zigzag v u) (pos 0) *ℤ pos (get_or quantisers (zigzag v u) 0)
  unfolding dequantised times_quantiser zigzag_at
  one_product v u hv hu =
      get_or_tab 64 (λ p. times_quantiser (get_or values (block * 64 + zigzag_at p) (pos 0)) (get_or quantisers (zigzag_at p) 0)) (pos 0) (v * 8 + u) (omega arith)
      ∙ rw (digits_div v hu, digits_mod v hu)

  one_sample_lem : (refinement y x : ℕ) → sample (dequantised values quantisers block) (centre refinement) x y ≡ sample_at refinement values quantisers block y x
  unfolding sample rounded double_sum row_sum product centre
  one_sample_lem refinement y x =
      ap (λ (t : ℤ). shr_z (t +ℤ pos (2 ^ 27)) (2 ^ 28) +ℤ pos (2 ^ (7 + refinement)))
      (sum_ext 8 _ _ (λ v hv. sum_ext 8 _ _ (λ u hu. ap (λ (t : ℤ). kernel x u *ℤ kernel y v *ℤ t) (one_product v u hv hu))))

pub samples_are : SamplesAre
unfolding blockwise.picture block_samples
samples_are refinement blocks values quantisers room ys h block y x hb hy hx =
    ap (λ (l : List ℤ). get_or l (block * 64 + (y * 8 + x)) (pos 0)) h.samples
    ∙ get_or_join (pos 0) 64 blocks (λ b. block_samples (dequantised values quantisers b) (centre refinement)) (λ b. block_length (dequantised values quantisers b) (centre refinement)) block (y * 8 + x) hb (omega arith)
    ∙ get_or_tab 64 (λ p. sample (dequantised values quantisers block) (centre refinement) (p % 8) (p / 8)) (pos 0) (y * 8 + x) (omega arith)
    ∙ rw (digits_div y hx, digits_mod y hx) (one_sample_lem values quantisers block refinement y x)

-- ---- what is owed

pub owed_are : OwedAre
unfolding owed_block
owed_are left quantisers room ys h y x hy hx =
    ap (λ (l : List ℕ). get_or l (y * 8 + x) 0) h.numbers
    ∙ get_or_tab 64 (λ p. owed left quantisers (p / 8) (p % 8)) 0 (y * 8 + x) (omega arith)
    ∙ rw (digits_div y hx, digits_mod y hx)

-- ---- merged results

pub results_are : ResultsAre
unfolding merged_picture planes merged_at
results_are s pixels base residual table room ys h k p hk hp =
    let at : ℕ → ℕ → ℕ = λ j q. component j (merged_at s pixels base residual table q) in
    ap (λ (l : List ℕ). get_or l (k * pixels + p) 0) h.results
    ∙ get_or_join 0 pixels s.components (λ j. tab pixels (at j)) (λ j. length_tab pixels (at j)) k p hk hp
    ∙ get_or_tab pixels (at k) 0 p hp
