-- `previews::first_quarter` meets its contract: the tables that it makes are the rules'. Assumes nothing.
use borrow.Author.Rules.{rules}
use mathlib.Core.Path.{refl, sym, subst, ◌∙◌}
use Prim.Native.Nat.{◌^◌, ◌≤◌}
use lib.Pow.{pow_pos}
use Rattle.previews.specs.Code.{row_table, Few}
use Rattle.previews.proofs.Tables.{magnitudes_are, power_small, power_moved}
use Rattle.previews.proofs.Weights.{rows_few, reaches_few, reaches_long}
use Rattle.previews.proofs.first_quarter.Goals as goal

pub fill_reaches-requires : goal.fill_reaches-requires
fill_reaches-requires c = record { table_value = (magnitudes_are, subst Few (sym c.fill_rows.ensures) (rows_few c.args.quantisers.now c.requires.1.0)); rows_len = (search rules, refl) }

pub fill_quarter-requires : goal.fill_quarter-requires
fill_quarter-requires c = let few : 2 ^ c.args.left ≤ 16 = power_small c.args.left c.requires.0 in
    let some : 1 ≤ 2 ^ c.args.left = pow_pos c.args.left in record { table_value = (magnitudes_are, rw (c.fill_reaches.ensures, c.fill_rows.ensures) (reaches_few c.args.quantisers.now c.requires.1.0, reaches_long (row_table c.args.quantisers.now))); le_d = rw (power_moved c.args.left c.requires.0) (some, (few, c.requires.1.1)) }

pub returns : goal.returns
returns c = c.fill_quarter.ensures ∙ rw (power_moved c.args.left c.requires.0, c.fill_reaches.ensures, c.fill_rows.ensures)
