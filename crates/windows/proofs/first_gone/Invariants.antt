-- What the loop of `windows::first_gone` keeps.
use Rattle.std.specs.Prelude.{None}
use Rattle.laws.specs.First.{first_fail}
use lib.Dec.{ltb}
use lib.ListN.{get_or}
use mathlib.Core.Path.{◌≡◌}
use Prim.Native.Nat.{ℕ}
use Rattle.windows.proofs.first_gone.Given as goal

abbrev pub invariant-loop-i : goal.invariant-loop-i
invariant-loop-i l = first_fail l.i (λ (i : ℕ). ltb 0 (get_or l.places i 0)) ≡ None
