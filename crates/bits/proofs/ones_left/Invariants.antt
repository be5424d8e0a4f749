-- What the loop of `bits::ones_left` keeps.
use mathlib.Core.Path.{◌≡◌}
use Prim.Native.Nat.{◌-◌}
use Rattle.laws.specs.Index.{every}
use Rattle.bits.specs.Code.{highs}
use Rattle.bits.proofs.ones_left.Given as goal

abbrev pub invariant-loop : goal.invariant-loop
invariant-loop l = every (highs (l.left - l.counter) l.b) ≡ every (highs l.left l.byte)
