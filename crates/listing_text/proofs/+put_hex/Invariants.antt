-- What goes down from call to call of `listing_text::put_hex`.
use Rattle.listing_text.proofs.+put_hex.Given as goal

abbrev pub decreases-put_hex : goal.decreases-put_hex
decreases-put_hex l = l.k
