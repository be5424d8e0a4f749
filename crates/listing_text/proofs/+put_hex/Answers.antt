-- `listing_text::put_hex` meets its contract: digits fall from call to call.
use Rattle.listing_text.proofs.Writes.{wrote_then, wrote_none, hex_more, hex_none}
use Rattle.listing_text.proofs.+put_hex.Goals as goal

pub returns-then-k-eq0-clause-wrote : goal.returns-then-k-eq0-clause-wrote
returns-then-k-eq0-clause-wrote t c = rw (hex_none _ _ c.if-k-eq0.true) (wrote_none _ _)

pub returns-clause-wrote : goal.returns-clause-wrote
returns-clause-wrote t c = rw (hex_more _ _ c.if-k-eq0.false, ← c.glyph.ensures) (wrote_then c.put_hex-to.ensures.wrote c.put.ensures)
