-- `listing_text::put_text` meets its contract.
use native.Mathlib.Omega.{arith}
use lib.Seq.{take_all}
use Rattle.std.proofs.lemmas.List.{take_more}
use Rattle.listing_text.proofs.Writes.{wrote_then, wrote_none}
use Rattle.listing_text.proofs.put_text.Goals as goal

pub loop-b-init : goal.loop-b-init
loop-b-init c = (wrote_none _ _, omega arith)

pub loop-b-preserved : goal.loop-b-preserved
loop-b-preserved c =
    (rw (take_more c.args.text.now c.loop-b.b-index 0 (omega arith)) (wrote_then c.loop-b.invariant.0 c.put-to.ensures), omega (arith, c.put-to.ensures.next))

pub returns : goal.returns
returns c = rw (take_all c.loop-b.b-index c.args.text.now (omega arith)) at c.loop-b.invariant.0
