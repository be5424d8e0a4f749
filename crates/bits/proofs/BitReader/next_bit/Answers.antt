-- `bits::BitReader::next_bit` meets its contract: one law of `take_bit` for each way through. Assumes nothing.
use Prim.Native.Nat.{◌<◌}
use lib.ListN.{get_or}
use Rattle.std.proofs.Common.{rules}
use Rattle.bits.specs.Code.{read_as}
use Rattle.bits.proofs.Taking as taking
use Rattle.bits.proofs.BitReader.next_bit.Goals as goal

pub returns-then-self-gt0-clause-taken : goal.returns-then-self-gt0-clause-taken
returns-then-self-gt0-clause-taken c = rw (c.open.ensures.bit, c.open.ensures.after) (taking.held _ c.if-self-gt0.true)

pub returns-then-self-at-clause-taken : goal.returns-then-self-at-clause-taken
unfolding read_as
returns-then-self-at-clause-taken c = taking.at_end c.args.self.now c.if-self-gt0.false c.if-self-at.true

pub returns-then-b-clause-taken : goal.returns-then-b-clause-taken
returns-then-b-clause-taken c = let byte : get_or c.args.self.now.«data».now c.args.self.now.at 0 < 256 = search rules in
    rw (c.open-then-b.ensures.bit, c.open-then-b.ensures.after) (taking.plain c.args.self.now c.if-self-gt0.false c.if-self-at.false byte c.if-b.true)

pub returns-then-self-at-2-clause-taken : goal.returns-then-self-at-2-clause-taken
unfolding read_as
returns-then-self-at-2-clause-taken c = taking.ff_end c.args.self.now c.if-self-gt0.false c.if-self-at.false c.if-b.false c.if-self-at-2.true

pub returns-then-self-at-ne0-clause-taken : goal.returns-then-self-at-ne0-clause-taken
unfolding read_as
returns-then-self-at-ne0-clause-taken c = taking.ff_marker c.args.self.now c.if-self-gt0.false c.if-self-at.false c.if-b.false c.if-self-at-2.false c.if-self-at-ne0.true

pub returns-clause-taken : goal.returns-clause-taken
returns-clause-taken c = rw (c.open-2.ensures.bit, c.open-2.ensures.after)
    (taking.ff_zero c.args.self.now c.if-self-gt0.false c.if-self-at.false c.if-b.false c.if-self-at-2.false c.if-self-at-ne0.false)
