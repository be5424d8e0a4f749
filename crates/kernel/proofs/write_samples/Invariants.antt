-- What the loop of `kernel::write_samples` keeps.
use mathlib.Core.Path.{◌≡◌}
use mathlib.Core.List.{List}
use Prim.Native.Nat.{ℕ, ◌/◌, ◌%◌}
use lib.IntN.{ℤ}
use Rattle.laws.proofs.Fill.{filled}
use Rattle.transform_rules.specs.Samples.{sample}
use Rattle.kernel.proofs.write_samples.Given as goal

-- the sample at index p of the block
abbrev pub sample-of : List ℤ → ℤ → ℕ → ℤ
sample-of s centre p = sample s centre (p % 8) (p / 8)

abbrev pub invariant-loop-p : goal.invariant-loop-p
invariant-loop-p l = l.destination ≡ filled l.initial.destination l.at (sample-of l.s l.centre) l.p
