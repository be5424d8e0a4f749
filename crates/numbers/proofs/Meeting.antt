-- The numbers that a pass meets. Assumes nothing.
use Prim.Native.Nat.{ℕ}
use mathlib.Core.Path.{◌≡◌, ap}
use mathlib.Core.List.{List, [], ◌∷◌}
use Rattle.box_rules.specs.Packets.{mine_from}
use Rattle.packets.specs.Code.{Met}
use Rattle.box_rules.specs.declared.Head.{Head}
use Rattle.box_rules.specs.Numbers.{numbers, numbers_from}

pub numbers_met : {file : List ℕ} {kind instance at : ℕ} {head : Head} {start len next : ℕ} → Met file kind instance at head start len next
    → numbers_from file kind instance at ≡ head.number ∷ numbers_from file kind instance next
unfolding numbers_from numbers
numbers_met m = ap numbers m.list

pub numbers_gone : (file : List ℕ) (kind instance at : ℕ) → mine_from file kind instance at ≡ [] → numbers_from file kind instance at ≡ []
unfolding numbers_from numbers
numbers_gone file kind instance at e = ap numbers e
