-- `listing_text::put_number` meets its contract.
use native.Mathlib.Omega.{arith}
use Rattle.listing_text.proofs.Writes.{dec_length}
use Rattle.listing_text.proofs.put_number.Goals as goal

pub put_dec-requires : goal.put_dec-requires
put_dec-requires c = omega (arith, dec_length c.args.n c.ranges.n.fits)

pub returns : goal.returns
returns c = record { wrote = c.put_dec.ensures; upper_bound = omega (arith, c.put_dec.ensures.next, dec_length c.args.n c.ranges.n.fits) }
