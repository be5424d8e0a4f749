-- `ac_reader::try_read_ac` meets its contract: the refusals in their order. Assumes nothing.
use mathlib.Core.Path.{◌≡◌, sym, ◌∙◌}
use mathlib.Core.Bool.{true}
use lib.ListN.{length}
use Rattle.std.specs.Prelude.{None}
use Rattle.std.proofs.lemmas.Result.{err_from_is_err_and}
use borrow.Author.Tests.{eq-eqb, ne_eqb, le-leb, lt-leb}
use Rattle.laws.specs.Index.{every}
use Rattle.answers.proofs.Laws.{tried_refused}
use Rattle.levels.proofs.Ranges.{all_small}
use Rattle.bit_rules.specs.Source.{start}
use Rattle.bit_rules.specs.Table.{table, good_table}
use Rattle.plane_rules.specs.Plane.{readable, closed}
use Rattle.plane_rules.specs.AcRead.{ac_blocks, cut, read_ac}
use Rattle.plane_rules.proofs.Ranges.{Ranged, ranged}
use Rattle.planes.proofs.Closing.{closing, stopping}
use native.Mathlib.Omega.{arith}
use borrow.Author.Rules.{rules}
use Rattle.ac_reader.proofs.try_read_ac.Goals.{Else-not-good_table, Else-not-readable, Else-destination-count}
use Rattle.ac_reader.proofs.try_read_ac.Goals as goal

-- the counts are good
counts : (c : Else-not-readable) → every (readable c.args.plane c.args.blocks) ≡ true
counts c = sym c.readable.ensures ∙ c.if-not-readable.false

good : (c : Else-not-readable) → Ranged c.args.plane c.args.blocks
good c = ranged c.args.plane c.args.blocks (counts c)

-- so is the table
tabled : (c : Else-not-good_table) → good_table (table c.args.counts.now c.args.codes.now) ≡ true
tabled c = sym c.good_table.ensures ∙ c.if-not-good_table.false

pub returns-then-not-readable : goal.returns-then-not-readable
unfolding read_ac
returns-then-not-readable c = tried_refused c.refuse.ensures (rw (sym c.readable.ensures ∙ c.if-not-readable.true))

pub overflow_mul-count : goal.overflow_mul-count
overflow_mul-count c = let here = goal.at.overflow_mul-count c in
    let r = good here.Else-not-readable in search rules

pub returns-then-values-count : goal.returns-then-values-count
unfolding read_ac
returns-then-values-count c = let here = goal.at.returns-then-values-count c in
    tried_refused c.refuse-then-values-count.ensures (rw (counts here.Else-not-readable, ne_eqb _ _ c.if-values-count.true))

pub returns-then-not-good_table : goal.returns-then-not-good_table
unfolding read_ac
returns-then-not-good_table c = let here = goal.at.returns-then-not-good_table c in
    tried_refused c.refuse-then-not-good_table.ensures
    (rw (counts here.Else-not-readable, eq-eqb _ _ c.if-values-count.false, sym c.good_table.ensures ∙ c.if-not-good_table.true))

pub overflow_sub-level : goal.overflow_sub-level
overflow_sub-level c = let here = goal.at.overflow_sub-level c in
    let r = good here.Else-not-readable in omega arith

pub first_outside-requires : goal.first_outside-requires
first_outside-requires c = let here = goal.at.first_outside-requires c in
    let r = good here.Else-not-readable in omega arith

pub returns-in-Some : goal.returns-in-Some
unfolding read_ac
returns-in-Some c = let here = goal.at.returns-in-Some c in
    tried_refused c.refuse-in-Some.ensures
    (rw (counts here.Else-not-readable, eq-eqb _ _ c.if-values-count.false, tabled here.Else-not-good_table, sym c.first_outside.ensures ∙ c.in-Some.is))

pub returns-then-destination-count : goal.returns-then-destination-count
unfolding read_ac
returns-then-destination-count c = let here = goal.at.returns-then-destination-count c in
    tried_refused c.refuse-then-destination-count.ensures
    (rw (counts here.Else-not-readable, eq-eqb _ _ c.if-values-count.false, tabled here.Else-not-good_table, sym c.first_outside.ensures ∙ c.in_default.is, lt-leb _ _ c.if-destination-count.true))

pub read_blocks-requires : goal.read_blocks-requires
read_blocks-requires c = let here = goal.at.read_blocks-requires c in
    let r = good here.Else-not-readable in
    record {
      codes_value = (tabled here.Else-not-good_table);
      small = all_small _ _ _ (omega arith) (sym c.first_outside.ensures ∙ c.in_default.is);
      values_len = c.if-values-count.false;
      blocks_in_bounds = c.if-destination-count.false;
    }

-- no test refuses
passed : (c : Else-destination-count) → read_ac c.args.plane c.args.blocks (table c.args.counts.now c.args.codes.now) c.args.values.now c.args.«data».now (length c.args.destination.now)
    ≡ closed (ac_blocks (table c.args.counts.now c.args.codes.now) 0 None (cut c.args.blocks c.args.values.now) (start c.args.«data».now))
unfolding read_ac
passed c = let here = goal.at.Else-destination-count c in
    rw (counts here.Else-not-readable, eq-eqb _ _ c.if-values-count.false, tabled here.Else-not-good_table, sym c.first_outside.ensures ∙ c.in_default.is, le-leb _ _ c.if-destination-count.false)

pub returns-in_err-read_blocks : goal.returns-in_err-read_blocks
returns-in_err-read_blocks c = let here = goal.at.returns-in_err-read_blocks c in
    let p = err_from_is_err_and c.from_residual.result c.from_residual.ensures.1 in
    rw (p.1, p.2, passed here.Else-destination-count) (stopping (rw c.new-r.ensures at c.in_err-read_blocks.ensures))

pub returns : goal.returns
returns c = let here = goal.at.returns c in
    rw (passed here.Else-destination-count)
    (closing (rw c.new-r.ensures at c.in_ok-read_blocks.ensures) (omega (arith, c.read_blocks.auto.destination, c.if-destination-count.false)) c.close_plane.ensures)
