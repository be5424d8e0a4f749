-- `dc_reader::read_dc_blocks` meets its contract: what is left to read, behind the values read so far, is the whole. Assumes nothing.
use mathlib.Core.Path.{◌≡◌, ◌∙◌}
use lib.IntN.{pos}
use lib.ListN.{get_or}
use mir.Syntax.{w32}
use mir.Val.{to_z, of_z}
use native.Mathlib.Omega.{arith}
use borrow.Author.Rules.{rules}
use Rattle.laws.proofs.Integers.{back}
use Rattle.bits.specs.Code.{read_as}
use Rattle.plane_rules.specs.Dc.{new_dc}
use Rattle.dc_reader.proofs.DcReading.{now_first, now_turn, now_stopped, now_end}
use Rattle.dc_reader.proofs.read_dc_blocks.Goals as goal

pub loop-i-init : goal.loop-i-init
loop-i-init c = now_first

pub returns-in-Err : goal.returns-in-Err
unfolding read_as
returns-in-Err c = now_stopped c.loop-i.invariant c.loop-i-test.true c.in-Err.ensures.taken

pub loop-i-preserved : goal.loop-i-preserved
unfolding read_as
loop-i-preserved c = let old : to_z w32 (of_z w32 (get_or c.args.values.now c.loop-i.i (pos 0))) ≡ get_or c.args.values.now c.loop-i.i (pos 0) = back w32 _ (search rules) in
    let stored : to_z w32 (of_z w32 c.new_dc.result) ≡ new_dc (get_or c.args.values.now c.loop-i.i (pos 0)) c.in-Ok.bit = back w32 c.new_dc.result c.new_dc.type_inv ∙ (rw (old) at c.new_dc.ensures) in
    now_turn c.loop-i.invariant c.loop-i-test.true c.in-Ok.ensures.taken stored (omega arith)

pub returns : goal.returns
returns c = now_end c.loop-i.invariant (omega arith)
