-- What the passes of the code say: the packet that comes next, and a quick look at the usual one.
use Rattle.std.specs.Prelude.{ℕ, ◌+◌, ◌-◌, ◌≤◌, ◌<◌, ◌≡◌, List, [], ◌∷◌, length, get_or, Option, Some, None}
use Rattle.box_rules.specs.declared.Head.{Head}
use Rattle.box_rules.specs.declared.Step.TheVariants.{Meet}
use Rattle.packets.specs.declared.Mine.{Mine}
use Rattle.box_rules.specs.Walk.{head_at, step_at, steps_from, ending}
use Rattle.box_rules.specs.Packets.{mine_from, packet}

-- the packet that a pass meets next, and where it goes on
pub record Met (file : List ℕ) (kind instance at : ℕ) (head : Head) (start len next : ℕ) : Type 0 where
  pub list : mine_from file kind instance at ≡ packet file head start len ∷ mine_from file kind instance next
  pub after : at < start
  pub reach : start + len ≡ next
  pub inside : next ≤ length file
  pub same : ending (steps_from file at) ≡ ending (steps_from file next)

abbrev pub NextIs : List ℕ → ℕ → ℕ → ℕ → Option Mine → Type 0
NextIs file kind instance at None = mine_from file kind instance at ≡ []
NextIs file kind instance at (Some m) = Met file kind instance at m.head m.start m.len m.next

-- a quick look at the usual case: a whole packet with no fill stands at a position. One way only: where it finds none, nothing is said
pub record Tagged (file : List ℕ) (at : ℕ) : Type 0 where
  pub first : get_or file at 0 ≡ 255
  pub marker : get_or file (at + 1) 0 ≡ 235
  pub four : get_or file (at + 4) 0 ≡ 74
  pub five : get_or file (at + 5) 0 ≡ 80

-- a packet in a segment of length len
pub record Packed (file : List ℕ) (at len : ℕ) : Type 0 where
  pub step : step_at file at ≡ Meet (head_at file (at + 1)) (at + 20) (len - 18) (at + 2 + len)
  pub least : 18 ≤ len
  pub inside : at + 2 + len ≤ length file

abbrev pub MineHere : List ℕ → ℕ → ℕ → ℕ → ℕ → Type 0
MineHere file kind instance at len = Met file kind instance at (head_at file (at + 1)) (at + 20) (len - 18) (at + 2 + len)
