-- `transform::transform_picture` meets its contract: behind so many blocks the destination begins with their samples. Assumes nothing.
use native.Mathlib.Omega.{arith}
use mathlib.Core.Path.{◌≡◌, sym, ◌∙◌}
use mir.Syntax.{w64}
use mir.Val.{to_z, of_z}
use Rattle.laws.proofs.Integers.{back}
use Rattle.laws.proofs.Fill.{joined_start, joined_turn}
use Rattle.transform_rules.specs.Picture.{picture}
use Rattle.transform.proofs.Tables.{centre_small}
use Rattle.transform.proofs.transform_picture.Invariants.{samples-of, each_long}
use Rattle.transform.proofs.transform_picture.Goals as goal

pub loop-block-init : goal.loop-block-init
loop-block-init c = sym (joined_start c.args.destination.now 64 (samples-of c.args.values.now c.args.quantisers.now (to_z w64 (of_z w64 c.centre-c.result))) (each_long c.args.values.now c.args.quantisers.now _))

pub transform_block-requires-clause-in_range : goal.transform_block-requires-clause-in_range
transform_block-requires-clause-in_range c = (c.requires.in_range.0, rw (back w64 c.centre-c.result c.centre-c.type_inv, c.centre-c.ensures) (centre_small c.args.refinement c.requires.in_range.1))

pub loop-block-preserved : goal.loop-block-preserved
loop-block-preserved c = c.transform_block.ensures ∙ rw c.loop-block.invariant (joined_turn c.args.destination.now 64 (samples-of c.args.values.now c.args.quantisers.now (to_z w64 (of_z w64 c.centre-c.result))) (each_long c.args.values.now c.args.quantisers.now _) c.loop-block.block)

pub returns : goal.returns
unfolding picture
returns c = let e : c.loop-block.block ≡ c.args.blocks = omega arith in
    c.loop-block.invariant ∙ rw (e, back w64 c.centre-c.result c.centre-c.type_inv, c.centre-c.ensures)
