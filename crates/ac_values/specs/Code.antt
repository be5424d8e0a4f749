-- What one value of a block comes to: a value corrected by a bit, and what the zero behind a walk becomes.
use Rattle.std.specs.Prelude.{Bool, true, false, ℤ, pos, Option, Some, None}
use Rattle.bit_rules.specs.Source.{Out}
use Rattle.bit_rules.specs.Reader.{and_then, done}
use Rattle.plane_rules.specs.Task.{unit}
use Rattle.plane_rules.specs.AcRead.{corrected}

-- a value corrected by the bit that was taken
unfoldable pub fixing : ℤ → Out Bool → Out ℤ
fixing value o = and_then (λ (b : Bool). done (corrected value b)) o

-- the sign that a walk sets: none where the zero is left
abbrev pub aim : Bool → Bool → Option Bool
aim true sign = None
aim false sign = Some sign

-- and what the zero becomes
abbrev pub aimed : Bool → Bool → ℤ
aimed true sign = pos 0
aimed false sign = unit sign
