-- One value at its position: corrected, the task stays open behind it; the zero behind a walk ends it. Assumes nothing.
use mathlib.Core.Path.{◌≡◌, refl, ap, ◌∙◌}
use Rattle.std.specs.Prelude.{Option, Some, None}
use mathlib.Core.Bool.{Bool, true, false}
use Prim.Native.Nat.{zero, suc}
use lib.IntN.{ℤ, pos, negsuc}
use Rattle.bit_rules.specs.Source.{Source, Out, got, stopped, take_bit}
use Rattle.bit_rules.specs.Reader.{and_then, done}
use Rattle.plane_rules.specs.Task.{Task, walk, at_zero, pass}
use Rattle.plane_rules.specs.AcRead.{position, corrected}
use Rattle.ac_values.specs.Code.{fixing, aim, aimed}

-- a value that is not zero takes one correction bit
corrects : (t : Task) (value : ℤ) (s : Source) → (value ≡ pos 0 → ⊥) → position t value s ≡ and_then (λ (b : Bool). done (corrected value b, Some t)) (take_bit s)
unfolding position
corrects t (pos zero) s z = absurd (z refl)
corrects t (pos (suc n)) s z = refl
corrects t (negsuc n) s z = refl

-- a value that is not zero: the task stays open behind it
unfoldable pub stays : Task → Out ℤ → Out (ℤ × Option Task)
stays t o = and_then {A = ℤ} {B = ℤ × Option Task} (λ (v : ℤ). done (v, Some t)) o

stays_fixed : (t : Task) (v : ℤ) (o : Out Bool) → and_then {A = Bool} {B = ℤ × Option Task} (λ (b : Bool). done (corrected v b, Some t)) o ≡ stays t (fixing v o)
unfolding fixing stays
stays_fixed t v (got b s) = refl
stays_fixed t v (stopped x) = refl

pub at_value : (t : Task) (v : ℤ) (s : Source) (r : Out ℤ) → (v ≡ pos 0 → ⊥) → fixing v (take_bit s) ≡ r → position t v s ≡ stays t r
at_value t v s r n e = corrects t v s n ∙ stays_fixed t v (take_bit s) ∙ ap (stays t) e

pub landed : (leave sign : Bool) → (at_zero (walk 0 (aim leave sign)) ≡ aimed leave sign) × (pass (walk 0 (aim leave sign)) ≡ None)
landed true sign = (refl, refl)
landed false sign = (refl, refl)
