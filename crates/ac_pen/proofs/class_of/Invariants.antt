-- What the loop of `ac_pen::class_of` keeps.
use mathlib.Core.Path.{◌≡◌}
use Prim.Native.Nat.{◌+◌, ◌-◌}
use Rattle.plane_rules.specs.AcWrite.{order, class}
use Rattle.ac_pen.proofs.class_of.Given as goal

abbrev pub invariant-loop-r : goal.invariant-loop-r
invariant-loop-r l = l.r + order (14 - l.r) l.m ≡ class l.n
