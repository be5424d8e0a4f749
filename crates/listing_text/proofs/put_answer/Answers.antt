-- `listing_text::put_answer` meets its contract.
use native.Mathlib.Omega.{arith}
use Rattle.listing_text.proofs.Writes.{wrote_then}
use Rattle.box_rules.specs.Text.{answer}
use Rattle.listing_text.proofs.put_answer.Goals as goal

pub returns : goal.returns
unfolding answer
returns c = record {
  wrote = wrote_then c.put_text-a.ensures (wrote_then c.put_number-b.ensures.wrote (wrote_then c.put-c.ensures (wrote_then c.put_number-d.ensures.wrote c.put.ensures)));
  upper_bound = omega (arith, c.put_text-a.ensures.next, c.put_number-b.ensures.upper_bound, c.put-c.ensures.next, c.put_number-d.ensures.upper_bound, c.put.ensures.next);
}
