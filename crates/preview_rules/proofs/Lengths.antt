-- How many numbers what is owed in a block has. Assumes nothing.
use mathlib.Core.Path.{◌≡◌}
use mathlib.Core.List.{List}
use Prim.Native.Nat.{ℕ}
use lib.ListN.{length}
use Rattle.laws.proofs.Lists.{length_tab}
use Rattle.preview_rules.specs.Owed.{owed_block}

pub block_long : (left : ℕ) (quantisers : List ℕ) → length (owed_block left quantisers) ≡ 64
unfolding owed_block
block_long left quantisers = length_tab 64 _
