-- Which packets a type and instance has in a file that has its box in the long form. Assumes nothing.
use Prim.Native.Nat.{ℕ}
use mathlib.Core.Path.{◌≡◌, refl}
use mathlib.Core.Logic.{inr}
use mathlib.Core.List.{List, [], ◌∷◌, map}
use mathlib.Core.Bool.{true}
use native.Mathlib.Omega.{arith}
use Rattle.box_rules.specs.Packets.{Packet, is_mine, mine}
use Rattle.box_rules.specs.Layout.{Part, packets_of, Boxed, AllSound, longer, lengthened, InLongForm, empty, longer_there, same_there}
use Rattle.box_rules.proofs.Strangers.{is_mine_lem, past}

-- packets of the short form
abbrev pub AllShort : List Packet → Type 0
AllShort [] = Unit
AllShort (p ∷ r) = (p.head.heading ≡ 8) × AllShort r

boxed_longer : (p : Packet) → p.head.heading ≡ 8 → Boxed p → Boxed (lengthened p)
unfolding lengthened longer
boxed_longer p s b = let l = b.least in record { form = inr refl; least = omega arith }

module _ (kind instance : ℕ) where
  -- the one file has its packets in the short form, the other has the same ones lengthened, and is sound too
  pub record Told (parts parts' : List Part) : Type 0 where
    pub short : AllShort (mine kind instance (packets_of parts))
    pub long : mine kind instance (packets_of parts') ≡ map lengthened (mine kind instance (packets_of parts))
    pub sound : AllSound parts'

  pub told : {parts parts' : List Part} → AllSound parts → InLongForm kind instance parts parts' → Told parts parts'
  unfolding packets_of mine lengthened longer
  told s empty = record { short = tt; long = refl; sound = tt }
  told s (longer_there {p} fill fill' k i e h) =
      let w = told s.1 h in
      let z : is_mine kind instance p.head ≡ true = is_mine_lem kind instance p.head k i in
      let z' : is_mine kind instance (longer p.head) ≡ true = is_mine_lem kind instance (longer p.head) k i in
      record { short = rw z (e, w.short); long = rw (z, z', w.long); sound = (boxed_longer p e s.0, w.sound) }
  told s (same_there {x} {a} {b} g h) =
      let w = told s.1 h in
      record { short = rw (past kind instance x a g) w.short; long = rw (past kind instance x b g, past kind instance x a g) w.long; sound = (s.0, w.sound) }
