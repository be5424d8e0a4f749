-- What the code's steps through a block stand for: a task carried out from a position on.
use Rattle.std.specs.Prelude.{◌≡◌, List, ◌++◌, ℕ, ◌≤◌, ◌<◌, ℤ, length, take, drop, Option, Some, None, Result, Ok, Err}
use Rattle.bit_rules.specs.Source.{Source, Stop, Out, got, stopped, stop}
use Rattle.bits.specs.Code.{bits_in}
use Rattle.bits.specs.declared.BitReader.{BitReader}
use Rattle.bits.specs.declared.Stop.{Stop as Refused}
use Rattle.bit_rules.specs.Table.{Table}
use Rattle.plane_rules.specs.Task.{Task, walk, ended}
use Rattle.plane_rules.specs.AcRead.{ac_block}
use Rattle.ac_tasks.specs.Code.{open_of}
use Rattle.ac_steps.specs.declared.Moved.{Moved}

-- values in front of those of an answer
unfoldable pub in_front : List ℤ → Out (List ℤ × Option Task) → Out (List ℤ × Option Task)
in_front values (got r s) = got (values ++ r.0, r.1) s
in_front values (stopped x) = stopped x

-- behind i positions of a block that began with task o₀ at s₀: what is left to read, behind the values read so far, is the whole
pub record At (T : Table) (left : ℕ) (values now : List ℤ) (o₀ o : Option Task) (s₀ s : Source) (i : ℕ) : Type 0 where
  pub within : i ≤ length values
  pub long : length now ≡ length values
  pub same : in_front (take i now) (ac_block T left o (drop i values) s) ≡ ac_block T left o₀ values s₀

-- from position i on, with task o open at s, the code came to position j, o' and t, whatever the block began with
pub record Carries (values before now : List ℤ) (o o' : Option Task) (s t : Source) (i j : ℕ) : Type 0 where
  pub long : length before ≡ length values → length now ≡ length values
  pub same : (T : Table) (left : ℕ) (o₀ : Option Task) (s₀ : Source) → At T left values before o₀ o s₀ s i → At T left values now o₀ o' s₀ t j

-- or no further: so the block stops
pub record Halts (values before : List ℤ) (o : Option Task) (s : Source) (i : ℕ) (x : Stop) : Type 0 where
  pub same : (T : Table) (left : ℕ) (o₀ : Option Task) (s₀ : Source) → At T left values before o₀ o s₀ s i → stopped x ≡ ac_block T left o₀ values s₀

-- no walk is open
abbrev pub NoWalk : Option Task → Type 0
NoWalk None = Unit
NoWalk (Some (walk _ _)) = ⊥
NoWalk (Some (ended _)) = Unit

-- what the code came to: further on, where a position was left, done, where one is left behind it, and with no walk open; or it stops, with the reader where it was
abbrev pub Steps : List ℤ → List ℤ → List ℤ → Option Task → Source → ℕ → BitReader → Result Moved Refused → Type 0
Steps values before now o s i r (Ok moved) = Carries values before now o (open_of moved.task) s (bits_in r) i moved.at × (i < length values → i < moved.at) × (moved.at < length values → moved.task ≡ None) × NoWalk (open_of moved.task)
Steps values before now o s i r (Err x) = Halts values before o s i (stop x.number x.offset) × (bits_in r ≡ s)
