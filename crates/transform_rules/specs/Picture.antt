-- T6, T8 and T9: dequantising, and the samples of a picture's blocks.
use Rattle.std.specs.Prelude.{◌≡◌, List, ℕ, ◌+◌, ◌*◌, ◌^◌, ◌≤◌, ℤ, pos, nat_abs, ◌*ℤ◌, length, get_or}
use Rattle.laws.specs.Index.{tab, join_to}
use Rattle.transform_rules.specs.Samples.{block_samples}
use Rattle.transform_rules.specs.Zigzag.{zigzag_at}

-- T6: "Let S be the value times its quantiser."
unfoldable pub times_quantiser : ℤ → ℕ → ℤ
times_quantiser value quantiser = value *ℤ pos quantiser

-- T6: a block's 64 S, row by row; values are lent "in zigzag order: 64 a block", quantisers "in the same zigzag order"
unfoldable pub dequantised : List ℤ → List ℕ → ℕ → List ℤ
dequantised values quantisers block =
    tab 64 (λ p. times_quantiser (get_or values (block * 64 + zigzag_at p) (pos 0)) (get_or quantisers (zigzag_at p) 0))

-- L7, T8: "2^(7+R), R being Rh or Rr"
unfoldable pub centre : ℕ → ℤ
centre refinement = pos (2 ^ (7 + refinement))

-- T9: the samples of all blocks, one block after the other
unfoldable pub picture : ℕ → ℕ → List ℤ → List ℕ → List ℤ
picture refinement blocks values quantisers = join_to blocks (λ block. block_samples (dequantised values quantisers block) (centre refinement))

-- what the code asks of values and quantisers that were not refused (past the end a list gives 0)
pub record InRange (values : List ℤ) (quantisers : List ℕ) : Type 0 where
  pub tabled : length quantisers ≡ 64
  pub valued : (k : ℕ) → nat_abs (get_or values k (pos 0)) ≤ 32768
  pub quantised : (k : ℕ) → get_or quantisers k 0 ≤ 255
