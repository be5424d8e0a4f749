-- `listing_text::put` meets its contract.
use Rattle.listing_text.proofs.Writes.{wrote_byte, wrote_past}
use Rattle.listing_text.proofs.put.Goals as goal
use Rattle.listing_text.proofs.put.Goals.{then-at-out, else-at-out}

pub returns : goal.returns
returns c =
    elim c.if-at-out.branch [ then-at-out w ↦ rw w.out-is (wrote_byte _ _ _) | else-at-out w ↦ rw w.out-is (wrote_past _ _ _ w.if-at-out.false) ]
