-- R3 and R15: blocks one after another, where reading them stops, and what is left behind the last (for the numbers 12 to 18 of D1).
use Rattle.std.specs.Prelude.{◌≡◌, Bool, false, List, [], ◌∷◌, ℕ, suc, ℤ, length, Option}
use Rattle.bit_rules.specs.Source.{Source, Out, got, stopped, stop, take_bit, only_padding}
use Rattle.bit_rules.specs.Reader.{and_then, done}
use Rattle.bit_rules.specs.Table.{Table}
use Rattle.plane_rules.specs.Task.{Task}
use Rattle.plane_rules.specs.AcRead.{ac_block}

-- R3: the first p blocks were read well, each from where the one before it left off: what is open then, the blocks that are left, and the data that are left
pub data Behind {A B : Type 0} (one : A → B → List B → Source → Out A) (o₀ : A) (bs₀ : List B) (s₀ : Source) : ℕ → A → List B → Source → Type 0 where
  begun : Behind one o₀ bs₀ s₀ 0 o₀ bs₀ s₀
  further : {p : ℕ} {o o' : A} {b : B} {bs : List B} {s t : Source}
      → Behind one o₀ bs₀ s₀ p o (b ∷ bs) s → one o b bs s ≡ got o' t → Behind one o₀ bs₀ s₀ (suc p) o' bs t

-- R3, N17: "block": those before block p were read well, and block p stops with the number n and the offset q (B8)
pub record StopsAt {A B : Type 0} (one : A → B → List B → Source → Out A) (o₀ : A) (bs₀ : List B) (s₀ : Source) (n p q : ℕ) : Type 0 where
  pub opened : A
  pub block : B
  pub later : List B
  pub source : Source
  pub behind : Behind one o₀ bs₀ s₀ p opened (block ∷ later) source
  pub stops : one opened block later source ≡ stopped (stop n q)

-- R15: 18: all blocks were read well, "padding not ones, or bytes left", and p is "bytes read"
pub record LeftOver {A B : Type 0} (one : A → B → List B → Source → Out A) (o₀ : A) (bs₀ : List B) (s₀ : Source) (p : ℕ) : Type 0 where
  pub count : ℕ
  pub opened : A
  pub source : Source
  pub behind : Behind one o₀ bs₀ s₀ count opened [] source
  pub more : only_padding source ≡ false
  pub place : p ≡ source.seen

-- R4: a block of a DC plane is one bit
abbrev pub one_dc : Unit {0} → ℤ → List ℤ → Source → Out (Unit {0})
one_dc u c later s = and_then (λ (b : Bool). done tt) (take_bit s)

-- R5: a block of an AC plane, with what it leaves open
abbrev pub one_ac : Table → Option Task → List ℤ → List (List ℤ) → Source → Out (Option Task)
one_ac codes o b later s = and_then (λ (r : List ℤ × Option Task). done r.1) (ac_block codes (suc (length later)) o b s)
