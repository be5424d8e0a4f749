-- `ac_reader::read_blocks` meets its contract: what is left to read, behind the values read so far, is the whole. Assumes nothing.
use mathlib.Core.Path.{◌≡◌, sym, ◌∙◌}
use Prim.Native.Nat.{◌+◌, ◌-◌, ◌*◌}
use lib.ListN.{length}
use borrow.Rule.Slice.PartMut.{mid_len}
use Rattle.bits.specs.Code.{read_as}
use Rattle.ac_reader.proofs.Plane.{behind_none, behind_all, behind_stopped, behind_one, small_part}
use native.Mathlib.Omega.{arith}
use Rattle.ac_reader.proofs.read_blocks.Goals.{After-read_block-read}
use Rattle.ac_reader.proofs.read_blocks.Goals as goal

-- as many values come back as were lent
long : (c : After-read_block-read) → length c.read_block-read.new.destination ≡ 63 * c.loop-block.block + 63 - 63 * c.loop-block.block
long c = c.read_block-read.auto.destination ∙ mid_len (63 * c.loop-block.block) (63 * c.loop-block.block + 63) c.loop-block.destination (omega (arith, c.requires.blocks_in_bounds))

pub loop-block-init : goal.loop-block-init
loop-block-init c = behind_none

pub read_block-read-requires : goal.read_block-read-requires
read_block-read-requires c = record {
  codes_value = c.requires.codes_value;
  small = small_part (63 * c.loop-block.block) (63 * c.loop-block.block + 63 - 63 * c.loop-block.block) c.args.values.now c.requires.small;
  destination_len =
      mid_len (63 * c.loop-block.block) (63 * c.loop-block.block + 63) c.loop-block.destination (omega (arith, c.requires.blocks_in_bounds))
      ∙ sym (mid_len (63 * c.loop-block.block) (63 * c.loop-block.block + 63) c.args.values.now (omega (arith, c.requires.values_len)));
}

pub returns-in-Err : goal.returns-in-Err
unfolding read_as
returns-in-Err c = let here = goal.at.returns-in-Err c in
    rw c.refused.ensures (behind_stopped c.loop-block.invariant c.loop-block-test.true (omega (arith, c.requires.blocks_in_bounds)) c.read_block-read.new.destination (long here.After-read_block-read) c.in-Err.ensures)

pub loop-block-preserved : goal.loop-block-preserved
unfolding read_as
loop-block-preserved c = let here = goal.at.loop-block-preserved c in
    behind_one c.loop-block.invariant c.loop-block-test.true (omega (arith, c.requires.blocks_in_bounds)) c.read_block-read.new.destination (long here.After-read_block-read) c.in-Ok.ensures

pub returns : goal.returns
returns c = behind_all c.loop-block.invariant (omega arith)
