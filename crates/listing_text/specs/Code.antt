-- A text in a lent buffer.
use Rattle.std.specs.Prelude.{ℕ, ◌+◌, ◌≡◌, List, [], ◌∷◌, length, set}

-- a text stored from a position on, as far as there is room
unfoldable pub write : List ℕ → ℕ → List ℕ → List ℕ
write d at [] = d
write d at (x ∷ r) = write (set d at x) (at + 1) r

-- the text b stands from `at` on, as far as there is room, and r is the position after it
pub record Wrote (d d' : List ℕ) (at r : ℕ) (b : List ℕ) : Type 0 where
  pub text : d' ≡ write d at b
  pub next : r ≡ at + length b
