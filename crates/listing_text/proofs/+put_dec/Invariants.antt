-- What goes down from call to call of `listing_text::put_dec`.
use Rattle.listing_text.proofs.+put_dec.Given as goal

abbrev pub decreases-put_dec : goal.decreases-put_dec
decreases-put_dec l = l.n
