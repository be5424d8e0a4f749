-- `listing_text::put_dec` meets its contract: digits fall from call to call.
use Rattle.listing_text.proofs.Writes.{dec_shorter, wrote_then}
use native.Mathlib.Omega.{arith}
use Rattle.box_rules.proofs.Decimal.{dec_small, dec_more}
use Rattle.listing_text.proofs.+put_dec.Goals as goal

pub returns-then-n-lt10 : goal.returns-then-n-lt10
returns-then-n-lt10 t c = rw (dec_small _ c.if-n-lt10.true) c.put.ensures

pub put_dec-to-requires : goal.put_dec-to-requires
put_dec-to-requires t c = omega (arith, c.decreases, c.requires, dec_shorter c.args.n c.if-n-lt10.false)

pub put-requires-2 : goal.put-requires-2
put-requires-2 t c = omega (arith, c.requires, c.put_dec-to.ensures.next, dec_shorter c.args.n c.if-n-lt10.false)

pub returns : goal.returns
returns t c = rw (dec_more _ c.if-n-lt10.false) (wrote_then c.put_dec-to.ensures c.put-2.ensures)
