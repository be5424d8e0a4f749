-- What the loops of `bit_putter::put_digits` keep, and what goes down.
use mathlib.Core.Path.{◌≡◌}
use Prim.Native.Nat.{◌≤◌}
use lib.ListN.{length}
use Rattle.bit_putter.proofs.Gathering.{Gathered}
use Rattle.bit_putter.proofs.put_digits.Given as goal

abbrev pub invariant-loop-count : goal.invariant-loop-count
invariant-loop-count l = (l.count ≤ 23) × (length l.destination ≡ length l.initial.destination) × Gathered l.initial.destination l.destination l.initial.at l.at l.initial.count l.count l.all

abbrev pub decreases-loop-count : goal.decreases-loop-count
decreases-loop-count l = l.count
