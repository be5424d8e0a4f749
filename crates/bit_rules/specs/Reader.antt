-- Readers one after another: a value and what is left of the source, or the first stop.
use Rattle.bit_rules.specs.Source.{Source, Out, got, stopped, stop}
use Rattle.std.specs.Prelude.{ℕ}

abbrev pub Reader : Type 0 → Type 0
Reader A = Source → Out A

abbrev pub and_then : {A B : Type 0} → (A → Reader B) → Out A → Out B
and_then f (got a s) = f a s
and_then f (stopped x) = stopped x

infixl 20 ◌>>=◌
abbrev pub ◌>>=◌ : {A B : Type 0} → Reader A → (A → Reader B) → Reader B
◌>>=◌ m f = λ s. and_then f (m s)

abbrev pub done : {A : Type 0} → A → Reader A
done a = λ s. got a s

-- B8: a refusal has "that offset of the last bit asked for"
abbrev pub fail : {A : Type 0} → ℕ → Reader A
fail number = λ s. stopped (stop number s.last)
