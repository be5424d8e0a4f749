-- `dc_writer::try_write_dc` meets its contract: the refusals in their order. Assumes nothing.
use mathlib.Core.Path.{◌≡◌, sym, ◌∙◌}
use mathlib.Core.Bool.{true}
use lib.ListN.{length-map}
use borrow.Author.Tests.{eq-eqb, ne_eqb}
use Rattle.laws.specs.Index.{every}
use Rattle.answers.proofs.Laws.{tried_refused, fitting_given, fitting_short}
use Rattle.bit_putter.proofs.Putting.{all_counted, all_stored}
use Rattle.plane_rules.specs.Plane.{readable, our_writer, writable}
use Rattle.plane_rules.specs.Dc.{dc_bit, dc_bytes, written_dc}
use Rattle.plane_rules.proofs.Ranges.{Ranged, ranged}
use native.Mathlib.Omega.{arith}
use Rattle.dc_writer.proofs.try_write_dc.Goals.{Else-not-readable, Else-not-writable}
use Rattle.dc_writer.proofs.try_write_dc.Goals as goal

-- the counts are good
counts : (c : Else-not-readable) → every (readable c.args.plane c.args.blocks) ≡ true
counts c = sym c.readable.ensures ∙ c.if-not-readable.false

good : (c : Else-not-readable) → Ranged c.args.plane c.args.blocks
good c = ranged c.args.plane c.args.blocks (counts c)

-- and so is the level
level : (c : Else-not-writable) → writable our_writer c.args.plane ≡ true
level c = sym c.writable.ensures ∙ c.if-not-writable.false

pub returns-then-not-readable : goal.returns-then-not-readable
unfolding written_dc
returns-then-not-readable c = tried_refused c.refuse.ensures (rw (sym c.readable.ensures ∙ c.if-not-readable.true))

pub returns-then-not-writable : goal.returns-then-not-writable
unfolding written_dc
returns-then-not-writable c = let here = goal.at.returns-then-not-writable c in
    tried_refused c.refuse-then-not-writable.ensures (rw (counts here.Else-not-readable, sym c.writable.ensures ∙ c.if-not-writable.true))

pub returns-then-values-blocks : goal.returns-then-values-blocks
unfolding written_dc
returns-then-values-blocks c = let here = goal.at.returns-then-values-blocks c in
    tried_refused c.refuse-then-values-blocks.ensures (rw (counts here.Else-not-readable, sym c.writable.ensures ∙ c.if-not-writable.false, ne_eqb _ _ c.if-values-blocks.true))

pub first_outside-requires : goal.first_outside-requires
first_outside-requires c = let here = goal.at.first_outside-requires c in
    let r = good here.Else-not-readable in omega arith

pub returns-in-Some : goal.returns-in-Some
unfolding written_dc
returns-in-Some c = let here = goal.at.returns-in-Some c in
    tried_refused c.refuse-in-Some.ensures (rw (counts here.Else-not-readable, level here.Else-not-writable, eq-eqb _ _ c.if-values-blocks.false, sym c.first_outside.ensures ∙ c.in-Some.is))

pub put_dc_bits-p-requires : goal.put_dc_bits-p-requires
put_dc_bits-p-requires c = let here = goal.at.put_dc_bits-p-requires c in
    let r = good here.Else-not-readable in omega arith

pub put_end-count-requires : goal.put_end-count-requires
put_end-count-requires c = let here = goal.at.put_end-count-requires c in
    let r = good here.Else-not-readable in
    record { sound = c.put_dc_bits-p.ensures.sound; at_bound = omega (arith, c.put_dc_bits-p.ensures.near, length-map c.args.values.now dc_bit) }

pub returns-then-destination-count : goal.returns-then-destination-count
unfolding written_dc
returns-then-destination-count c = let here = goal.at.returns-then-destination-count c in
    rw (counts here.Else-not-readable, level here.Else-not-writable, eq-eqb _ _ c.if-values-blocks.false, sym c.first_outside.ensures ∙ c.in_default.is)
    (fitting_short _ (dc_bytes c.args.values.now) (all_counted c.put_dc_bits-p.ensures c.put_end-count.ensures) (omega arith) c.refuse-then-destination-count.ensures)

pub returns : goal.returns
unfolding written_dc
returns c = let here = goal.at.returns c in
    rw (counts here.Else-not-readable, level here.Else-not-writable, eq-eqb _ _ c.if-values-blocks.false, sym c.first_outside.ensures ∙ c.in_default.is)
    (fitting_given _ (dc_bytes c.args.values.now) (all_counted c.put_dc_bits-p.ensures c.put_end-count.ensures) (omega arith) (all_stored c.put_dc_bits-p.ensures c.put_end-count.ensures (omega (arith, all_counted c.put_dc_bits-p.ensures c.put_end-count.ensures))))
