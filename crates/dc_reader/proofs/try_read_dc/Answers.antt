-- `dc_reader::try_read_dc` meets its contract: the refusals in their order. Assumes nothing.
use mathlib.Core.Path.{◌≡◌, sym, ◌∙◌}
use mathlib.Core.Bool.{true}
use borrow.Author.Tests.{eq-eqb, ne_eqb, le-leb, lt-leb}
use lib.ListN.{length}
use Rattle.bit_rules.specs.Source.{start}
use Rattle.laws.specs.Index.{every}
use Rattle.answers.proofs.Laws.{tried_refused}
use Rattle.levels.proofs.Ranges.{all_small}
use Rattle.plane_rules.specs.Plane.{readable, closed}
use Rattle.plane_rules.specs.Dc.{dc_blocks, read_dc}
use Rattle.plane_rules.proofs.Ranges.{Ranged, ranged}
use Rattle.planes.proofs.Closing.{closing, stopping}
use native.Mathlib.Omega.{arith}
use Rattle.std.proofs.lemmas.Result.{err_from_is_err_and}
use Rattle.dc_reader.proofs.try_read_dc.Goals.{Else-not-readable, Else-destination-blocks}
use Rattle.dc_reader.proofs.try_read_dc.Goals as goal

-- the counts are good
counts : (c : Else-not-readable) → every (readable c.args.plane c.args.blocks) ≡ true
counts c = sym c.readable.ensures ∙ c.if-not-readable.false

good : (c : Else-not-readable) → Ranged c.args.plane c.args.blocks
good c = ranged c.args.plane c.args.blocks (counts c)

pub returns-then-not-readable : goal.returns-then-not-readable
unfolding read_dc
returns-then-not-readable c = tried_refused c.refuse.ensures (rw (sym c.readable.ensures ∙ c.if-not-readable.true))

pub returns-then-values-blocks : goal.returns-then-values-blocks
unfolding read_dc
returns-then-values-blocks c = let here = goal.at.returns-then-values-blocks c in
    tried_refused c.refuse-then-values-blocks.ensures (rw (counts here.Else-not-readable, ne_eqb _ _ c.if-values-blocks.true))

pub overflow_sub-level : goal.overflow_sub-level
overflow_sub-level c = let here = goal.at.overflow_sub-level c in
    let r = good here.Else-not-readable in omega arith

pub first_outside-requires : goal.first_outside-requires
first_outside-requires c = let here = goal.at.first_outside-requires c in
    let r = good here.Else-not-readable in omega arith

pub returns-in-Some : goal.returns-in-Some
unfolding read_dc
returns-in-Some c = let here = goal.at.returns-in-Some c in
    tried_refused c.refuse-in-Some.ensures (rw (counts here.Else-not-readable, eq-eqb _ _ c.if-values-blocks.false, sym c.first_outside.ensures ∙ c.in-Some.is))

pub returns-then-destination-blocks : goal.returns-then-destination-blocks
unfolding read_dc
returns-then-destination-blocks c = let here = goal.at.returns-then-destination-blocks c in
    tried_refused c.refuse-then-destination-blocks.ensures
    (rw (counts here.Else-not-readable, eq-eqb _ _ c.if-values-blocks.false, sym c.first_outside.ensures ∙ c.in_default.is, lt-leb _ _ c.if-destination-blocks.true))

pub read_dc_blocks-requires : goal.read_dc_blocks-requires
read_dc_blocks-requires c = let here = goal.at.read_dc_blocks-requires c in
    let r = good here.Else-not-readable in
    record { small = all_small _ _ _ (omega arith) (sym c.first_outside.ensures ∙ c.in_default.is); values_in_bounds = omega arith }

-- no test refuses
passed : (c : Else-destination-blocks) → read_dc c.args.plane c.args.blocks c.args.values.now c.args.«data».now (length c.args.destination.now) ≡ closed (dc_blocks 0 c.args.values.now (start c.args.«data».now))
unfolding read_dc
passed c = rw (counts (goal.at.Else-destination-blocks c).Else-not-readable, eq-eqb _ _ c.if-values-blocks.false, sym c.first_outside.ensures ∙ c.in_default.is, le-leb _ _ c.if-destination-blocks.false)

pub returns-in_err-read_dc_blocks : goal.returns-in_err-read_dc_blocks
returns-in_err-read_dc_blocks c = let here = goal.at.returns-in_err-read_dc_blocks c in
    let e = err_from_is_err_and c.from_residual.result c.from_residual.ensures.1 in
    rw (e.1, e.2, passed here.Else-destination-blocks) (stopping (rw c.new-r.ensures at c.in_err-read_dc_blocks.ensures))

pub returns : goal.returns
returns c = let here = goal.at.returns c in
    rw (passed here.Else-destination-blocks)
    (closing (rw (c.if-values-blocks.false, c.new-r.ensures) at c.in_ok-read_dc_blocks.ensures) (omega (arith, c.read_dc_blocks.auto.destination)) c.close_plane.ensures)
