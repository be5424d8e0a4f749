-- V1 to V3: how far a sample of a preview, with the scale of the full picture, can be from the full picture's.
use Rattle.std.specs.Prelude.{List, ℕ, ◌-◌, ◌*◌, ◌/◌, ◌%◌, ◌^◌, nat_abs, ◌*ℤ◌, get_or}
use Rattle.laws.specs.Index.{total_to, tab}
use Rattle.laws.specs.Apart.{apart_rounded}
use Rattle.transform_rules.specs.Cosines.{kernel}
use Rattle.transform_rules.specs.Zigzag.{zigzag}

-- V1: how much the sample at row y, column x moves where each of the 64 values is one off, at the worst: the sum of |K(x,u) K(y,v)| times the quantiser
unfoldable pub weight : List ℕ → ℕ → ℕ → ℕ
weight quantisers y x = total_to 8 (λ v. total_to 8 (λ u. nat_abs (kernel x u *ℤ kernel y v) * get_or quantisers (zigzag v u) 0))

-- V2: with so many planes left a value lacks at most 2^left - 1; the sums are divided by 2^28 and rounded, the preview's error counts 2^left times
unfoldable pub owed : ℕ → List ℕ → ℕ → ℕ → ℕ
owed left quantisers y x = apart_rounded (2 ^ left) ((2 ^ left - 1) * weight quantisers y x) (2 ^ 28)

-- V3: the 64 of a block, row by row
unfoldable pub owed_block : ℕ → List ℕ → List ℕ
owed_block left quantisers = tab 64 (λ p. owed left quantisers (p / 8) (p % 8))
