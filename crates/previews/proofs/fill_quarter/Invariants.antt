-- What the loop of `previews::fill_quarter` keeps.
use mathlib.Core.Path.{◌≡◌}
use mathlib.Core.List.{List}
use Prim.Native.Nat.{ℕ, ◌-◌, ◌*◌, ◌/◌, ◌%◌, ◌^◌}
use Rattle.laws.specs.Apart.{apart_rounded}
use Rattle.laws.proofs.Fill.{front}
use Rattle.previews.specs.Code.{along}
use Rattle.previews.proofs.fill_quarter.Given as goal

-- the number at index p of the block
abbrev pub owed-of : ℕ → List ℕ → ℕ → ℕ
owed-of d reaches p = apart_rounded d ((d - 1) * along reaches (p / 4) (p % 4)) (2 ^ 28)

abbrev pub invariant-loop-p : goal.invariant-loop-p
invariant-loop-p l = l.owed ≡ front l.initial.owed (owed-of l.d l.reaches) l.p
