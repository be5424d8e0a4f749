-- What a verdict on a box is, in the code's words.
use Rattle.std.specs.Prelude.{ℕ, ◌≤◌, ◌≡◌, List, Bool, length, Result, Ok, Err}
use Rattle.answers.specs.Verdict.{Verdict, given, refused}
use Rattle.box_rules.specs.Packets.{Packet}
use Rattle.box_rules.specs.Numbers.{numbers}
use Rattle.box_rules.specs.Box.{joined}
use Rattle.scans.specs.declared.Fault.TheVariants.{Fine}
use Rattle.scans.specs.Code.{in_order, fault_of}
use Rattle.judging.specs.declared.Ready.{Ready}
use Rattle.answers.specs.declared.Refusal.{Refusal}

-- the bytes can be handed out: how many packets, how many bytes, and whether they stand in order
pub record Whole (ps : List Packet) (room : ℕ) (v : Verdict ℕ) (n sum : ℕ) (ordered : Bool) : Type 0 where
  pub says : v ≡ given (joined ps)
  pub size : length (joined ps) ≡ sum
  pub fits : sum ≤ room
  pub many : n ≡ length ps
  pub order : ordered ≡ in_order 1 (numbers ps)
  pub once : fault_of (numbers ps) ≡ Fine

-- what a verdict is, in the code's words
abbrev pub ReadyIs : List Packet → ℕ → Verdict ℕ → Result Ready Refusal → Type 0
ReadyIs ps room v (Err r) = v ≡ refused r
ReadyIs ps room v (Ok b) = Whole ps room v b.n b.total b.ordered
