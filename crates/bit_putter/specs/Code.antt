-- What the code's putter stands for, and what it means that bits were put.
use Rattle.std.specs.Prelude.{◌≡◌, Bool, List, [], ◌++◌, ℕ, ◌+◌, ◌-◌, ◌*◌, ◌^◌, ◌≤◌, ◌<◌, length}
use Rattle.std.proofs.lemmas.List.Edits.{sets}
use Rattle.bit_rules.specs.Pack.{packed}
use Rattle.bit_putter.specs.declared.Putter.{Putter}

-- the bits in hand fill what is not room
pub record Sound (p : Putter) : Type 0 where
  pub room : p.room ≤ 7
  pub held : p.held < 2 ^ (7 - p.room)

-- a putter that has put nothing
abbrev pub new_putter : Putter
new_putter = record { at = 0; held = 0; room = 7 }

-- what memory and count come to, if these bits follow and the last byte is padded
pub record Written : Type 0 where
  pub memory : List ℕ
  pub count : ℕ

unfoldable pub finishing : List ℕ → Putter → List Bool → Written
finishing memory p bits =
    record { memory = sets memory p.at (packed p.held p.room bits); count = p.at + length (packed p.held p.room bits) }

-- from p to r these bits were put: whatever follows, it comes to the same
pub record Puts (before after : List ℕ) (p r : Putter) (bits : List Bool) : Type 0 where
  pub same : (more : List Bool) → finishing after r more ≡ finishing before p (bits ++ more)
  pub sound : Sound r
  pub near : r.at ≤ p.at + 2 * length bits

-- the last byte was padded and put
pub record Ends (before after : List ℕ) (p : Putter) (count : ℕ) : Type 0 where
  pub same : record { memory = after; count = count } ≡ finishing before p []
