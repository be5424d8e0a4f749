-- `listing_text::try_list` meets its contract.
use Rattle.std.specs.Prelude.{Ok}
use Rattle.answers.proofs.Laws.{tried_refused, tried_given}
use Rattle.listing_text.proofs.Writes.{listed_short, listed_fits}
use mathlib.Core.Path.{ap}
use Rattle.listing_text.proofs.try_list.Goals as goal

pub returns-then-text-end : goal.returns-then-text-end
returns-then-text-end c = tried_refused c.refuse.ensures (listed_short _ c.put_listing-end.ensures c.if-text-end.true)

pub returns : goal.returns
returns c = let e = listed_fits _ c.put_listing-end.ensures c.if-text-end.false in tried_given (ap Ok e.1) e.0 e.2
