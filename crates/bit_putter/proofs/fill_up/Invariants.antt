-- What the loop of `bit_putter::fill_up` keeps.
use mathlib.Core.Path.{◌≡◌}
use Prim.Native.Nat.{◌-◌, ◌^◌, ◌<◌}
use Rattle.bit_rules.specs.Pack.{padded}
use Rattle.bit_putter.proofs.fill_up.Given as goal

abbrev pub invariant-loop : goal.invariant-loop
invariant-loop l = (padded l.h (l.room - l.counter) ≡ padded l.held l.room) × (l.h < 2 ^ (7 - (l.room - l.counter)))
