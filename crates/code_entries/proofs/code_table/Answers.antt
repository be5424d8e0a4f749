-- `code_entries::code_table` meets its contract: so far each value has the entry of its place among the places passed. Assumes nothing.
use Rattle.bit_rules.specs.Table.{table}
use Rattle.bit_rules.proofs.Tables.{good}
use Rattle.code_entries.proofs.Entering.{enter_start, enter_turn, enter_end}
use native.Mathlib.Omega.{arith}
use Rattle.code_entries.proofs.code_table.Goals as goal

pub loop-place-init : goal.loop-place-init
loop-place-init c = enter_start _

pub code_at-code-requires : goal.code_at-code-requires
code_at-code-requires c = let g = good (table c.args.counts.now c.args.values.now) c.requires in
    (g.sixteen, omega (arith, g.all, c.loop-place-test.true), omega (arith, g.bytes, c.loop-place-test.true))

pub loop-place-preserved : goal.loop-place-preserved
loop-place-preserved c = enter_turn c.requires c.loop-place.invariant c.loop-place-test.true c.code_at-code.ensures c.from.ensures (omega (arith, c.from.ensures, c.type_inv.values c.loop-place.place))

pub returns : goal.returns
returns c = enter_end c.requires c.loop-place.invariant c.loop-place-test.false
