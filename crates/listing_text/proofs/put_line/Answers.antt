-- `listing_text::put_line` meets its contract.
use native.Mathlib.Omega.{arith}
use Rattle.listing_text.proofs.Writes.{wrote_then}
use Rattle.box_rules.specs.Text.{line}
use Rattle.listing_text.proofs.put_line.Goals as goal

pub returns : goal.returns
unfolding line
returns c = record {
  wrote = wrote_then c.put_number-a.ensures.wrote (wrote_then c.put-b.ensures (wrote_then c.put_number-c.ensures.wrote (wrote_then c.put-d.ensures (wrote_then c.put_number-e.ensures.wrote (wrote_then c.put-f.ensures (wrote_then c.put_hex-g.ensures.wrote c.put.ensures))))));
  upper_bound = omega (arith, c.put_number-a.ensures.upper_bound, c.put_number-c.ensures.upper_bound, c.put_number-e.ensures.upper_bound, c.put_hex-g.ensures.value, c.put-b.ensures.next, c.put-d.ensures.next, c.put-f.ensures.next, c.put.ensures.next);
}
