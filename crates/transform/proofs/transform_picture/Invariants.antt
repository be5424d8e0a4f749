-- What the loop of `transform::transform_picture` keeps.
use mathlib.Core.Path.{◌≡◌}
use mathlib.Core.List.{List}
use Prim.Native.Nat.{ℕ}
use lib.IntN.{ℤ}
use lib.ListN.{length}
use Rattle.laws.proofs.Fill.{joined}
use Rattle.transform_rules.specs.Samples.{block_samples}
use Rattle.transform_rules.specs.Picture.{dequantised}
use Rattle.transform_rules.proofs.Lengths.{block_length}
use Rattle.transform.proofs.transform_picture.Given as goal

abbrev pub samples-of : List ℤ → List ℕ → ℤ → ℕ → List ℤ
samples-of values quantisers middle block = block_samples (dequantised values quantisers block) middle

pub each_long : (values : List ℤ) (quantisers : List ℕ) (middle : ℤ) (block : ℕ) → length (samples-of values quantisers middle block) ≡ 64
each_long values quantisers middle block = block_length (dequantised values quantisers block) middle

abbrev pub invariant-loop-block : goal.invariant-loop-block
invariant-loop-block l = l.destination ≡ joined l.initial.destination 64 (samples-of l.values l.quantisers l.c) (each_long l.values l.quantisers l.c) l.block
