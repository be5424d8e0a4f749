-- `ac_writer::try_write_ac` meets its contract: the refusals in their order. Assumes nothing.
use mathlib.Core.Path.{◌≡◌, sym, ◌∙◌}
use mathlib.Core.Bool.{true}
use borrow.Author.Tests.{eq-eqb, ne_eqb}
use Rattle.laws.specs.Index.{every}
use Rattle.answers.proofs.Laws.{tried_refused}
use Rattle.bit_rules.specs.Table.{table, good_table}
use Rattle.plane_rules.specs.Plane.{readable, our_writer, writable}
use Rattle.plane_rules.specs.AcWrite.{written_ac}
use Rattle.plane_rules.proofs.Ranges.{Ranged, ranged}
use native.Mathlib.Omega.{arith}
use Rattle.ac_writer.proofs.try_write_ac.Goals.{Else-not-good_table, Else-not-readable, Else-not-writable}
use Rattle.ac_writer.proofs.try_write_ac.Goals as goal

-- the counts are good
counts : (c : Else-not-readable) → every (readable c.args.plane c.args.blocks) ≡ true
counts c = sym c.readable.ensures ∙ c.if-not-readable.false

good : (c : Else-not-readable) → Ranged c.args.plane c.args.blocks
good c = ranged c.args.plane c.args.blocks (counts c)

-- and so is the level
level : (c : Else-not-writable) → writable our_writer c.args.plane ≡ true
level c = sym c.writable.ensures ∙ c.if-not-writable.false

-- and so is the table
tabled : (c : Else-not-good_table) → good_table (table c.args.counts.now c.args.codes.now) ≡ true
tabled c = sym c.good_table.ensures ∙ c.if-not-good_table.false

pub returns-then-not-readable : goal.returns-then-not-readable
unfolding written_ac
returns-then-not-readable c = tried_refused c.refuse.ensures (rw (sym c.readable.ensures ∙ c.if-not-readable.true))

pub returns-then-not-writable : goal.returns-then-not-writable
unfolding written_ac
returns-then-not-writable c = let here = goal.at.returns-then-not-writable c in
    tried_refused c.refuse-then-not-writable.ensures (rw (counts here.Else-not-readable, sym c.writable.ensures ∙ c.if-not-writable.true))

pub overflow_mul-blocks : goal.overflow_mul-blocks
overflow_mul-blocks c = let here = goal.at.overflow_mul-blocks c in
    let r = good here.Else-not-readable in omega arith

pub returns-then-values-blocks : goal.returns-then-values-blocks
unfolding written_ac
returns-then-values-blocks c = let here = goal.at.returns-then-values-blocks c in
    tried_refused c.refuse-then-values-blocks.ensures (rw (counts here.Else-not-readable, sym c.writable.ensures ∙ c.if-not-writable.false, ne_eqb _ _ c.if-values-blocks.true))

pub returns-then-not-good_table : goal.returns-then-not-good_table
unfolding written_ac
returns-then-not-good_table c = let here = goal.at.returns-then-not-good_table c in
    tried_refused c.refuse-then-not-good_table.ensures (rw (counts here.Else-not-readable, level here.Else-not-writable, eq-eqb _ _ c.if-values-blocks.false, sym c.good_table.ensures ∙ c.if-not-good_table.true))

pub first_outside-requires : goal.first_outside-requires
first_outside-requires c = let here = goal.at.first_outside-requires c in
    let r = good here.Else-not-readable in omega arith

pub returns-in-Some : goal.returns-in-Some
unfolding written_ac
returns-in-Some c = let here = goal.at.returns-in-Some c in
    tried_refused c.refuse-in-Some.ensures
    (rw (counts here.Else-not-readable, level here.Else-not-writable, eq-eqb _ _ c.if-values-blocks.false, tabled here.Else-not-good_table, sym c.first_outside.ensures ∙ c.in-Some.is))

pub put_all-requires : goal.put_all-requires
put_all-requires c = let here = goal.at.put_all-requires c in
    let r = good here.Else-not-readable in record { codes_value = (tabled here.Else-not-good_table); values_len = (c.if-values-blocks.false, omega arith) }

pub returns : goal.returns
unfolding written_ac
returns c = let here = goal.at.returns c in
    rw (counts here.Else-not-readable, level here.Else-not-writable, eq-eqb _ _ c.if-values-blocks.false, tabled here.Else-not-good_table, sym c.first_outside.ensures ∙ c.in_default.is) c.put_all.ensures
