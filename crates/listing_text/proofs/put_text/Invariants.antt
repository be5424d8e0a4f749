-- What the loop of `listing_text::put_text` keeps.
use lib.ListN.{take}
use mathlib.Core.Path.{◌≡◌}
use Rattle.listing_text.specs.Code.{Wrote}
use Prim.Native.Nat.{◌+◌}
use Rattle.listing_text.proofs.put_text.Given as goal

abbrev pub invariant-loop-b : goal.invariant-loop-b
invariant-loop-b l = Wrote l.initial.out l.out l.at l.to (take l.b-index l.text) × (l.to ≡ l.at + l.b-index)
