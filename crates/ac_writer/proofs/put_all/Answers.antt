-- `ac_writer::put_all` meets its contract: 19, then 9, then the bytes. Assumes nothing.
use mathlib.Core.Path.{sym, ◌∙◌}
use Rattle.answers.proofs.Laws.{tried_refused, fitting_given, fitting_short}
use Rattle.bit_putter.proofs.Putting.{all_counted, all_stored}
use Rattle.bit_rules.specs.Table.{table}
use Rattle.plane_rules.specs.AcWrite.{ac_bytes}
use Rattle.ac_writer.proofs.Lengths.{plane_length}
use native.Mathlib.Omega.{arith}
use Rattle.ac_writer.proofs.put_all.Goals as goal

pub put_blocks-pen-requires : goal.put_blocks-pen-requires
put_blocks-pen-requires c = c.requires

pub returns-in-Some : goal.returns-in-Some
returns-in-Some c = tried_refused c.refuse.ensures (rw (sym c.put_blocks-pen.ensures.lack ∙ c.in-Some.is))

pub put_end-count-requires : goal.put_end-count-requires
put_end-count-requires c = record {
  sound = c.put_blocks-pen.ensures.put.sound;
  at_bound = omega (arith, c.put_blocks-pen.ensures.put.near, plane_length (table c.args.counts.now c.args.codes.now) c.requires.codes_value c.args.blocks c.args.values.now, c.requires.values_len.1);
}

pub returns-then-destination-count : goal.returns-then-destination-count
returns-then-destination-count c = rw (sym c.put_blocks-pen.ensures.lack ∙ c.in_default.is)
    (fitting_short _ (ac_bytes c.args.blocks (table c.args.counts.now c.args.codes.now) c.args.values.now) (all_counted c.put_blocks-pen.ensures.put c.put_end-count.ensures) (omega arith) c.refuse-then-destination-count.ensures)

pub returns : goal.returns
returns c = rw (sym c.put_blocks-pen.ensures.lack ∙ c.in_default.is)
    (fitting_given _ (ac_bytes c.args.blocks (table c.args.counts.now c.args.codes.now) c.args.values.now) (all_counted c.put_blocks-pen.ensures.put c.put_end-count.ensures) (omega arith) (all_stored c.put_blocks-pen.ensures.put c.put_end-count.ensures (omega (arith, all_counted c.put_blocks-pen.ensures.put c.put_end-count.ensures))))
