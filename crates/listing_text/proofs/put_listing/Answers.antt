-- `listing_text::put_listing` meets its contract, case by case.
use Rattle.box_rules.specs.Text.{header}
use Rattle.listing_text.proofs.Writes.{wrote_then, listing_long, listing_refused, listing_good}
use mathlib.Core.Path.{sym, ◌∙◌}
use Rattle.listing_text.proofs.put_listing.Goals as goal

pub returns-then-file-gt65536 : goal.returns-then-file-gt65536
unfolding header
returns-then-file-gt65536 c = rw (listing_long _ c.if-file-gt65536.true) (wrote_then c.put_text-h.ensures c.put_answer.ensures.wrote)

pub returns-in-Err : goal.returns-in-Err
unfolding header
returns-in-Err c = rw (listing_refused _ c.if-file-gt65536.false (sym c.walk_all.ensures ∙ c.in-Err.is)) (wrote_then c.put_text-h.ensures c.put_answer-in-Err.ensures.wrote)

pub returns-in-Ok : goal.returns-in-Ok
unfolding header
returns-in-Ok c = rw (listing_good _ c.if-file-gt65536.false (sym c.walk_all.ensures ∙ c.in-Ok.is)) (wrote_then c.put_text-h.ensures (wrote_then c.put_lines-e.ensures.wrote c.put_answer-in-Ok.ensures.wrote))
