-- What the code's reader and its answers stand for.
use Rattle.std.specs.Prelude.{Bool, List, [], ◌∷◌, ℕ, zero, suc, ◌*◌, ◌/◌, ◌%◌, eqb, drop, Result, Ok, Err}
use Rattle.bit_rules.specs.Source.{Source, source, Out, got, stopped, stop}
use Rattle.bits.specs.declared.BitReader.{BitReader}
use Rattle.bits.specs.declared.Stop.{Stop}

-- the n highest bits of a byte, the highest first
unfoldable pub highs : ℕ → ℕ → List Bool
highs zero byte = []
highs (suc n) byte = eqb (byte / 128) 1 ∷ highs n (byte % 128 * 2)

-- the bits in a reader: any reader stands for a source
unfoldable pub bits_in : BitReader → Source
bits_in r = source (highs r.left r.byte) (drop r.at r.«data».now) r.at r.last

-- the reader when a byte was opened: its highest bit is taken, and it is kept moved up by one
abbrev pub opened_at : BitReader → ℕ → ℕ → ℕ → ℕ → BitReader
opened_at r at left byte last = record { «data» = r.«data»; at = at; left = left; byte = byte % 128 * 2; last = last }

-- N15: what the code's answer stands for, with the reader behind it
unfoldable pub read_as : {A B : Type 0} → (A → B) → BitReader → Result A Stop → Out B
read_as f r (Ok a) = got (f a) (bits_in r)
read_as f r (Err s) = stopped (stop s.number s.offset)

abbrev pub read_by : {A : Type 0} → BitReader → Result A Stop → Out A
read_by = read_as (λ a. a)
