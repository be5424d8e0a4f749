-- `transform::transform_block` meets its contract: dequantised by the zigzag order, then transformed. Assumes nothing.
use native.Mathlib.Omega.{arith}
use mathlib.Core.Path.{refl, sym, subst, ◌∙◌}
use mir.Facts.{to_z-of_z}
use Rattle.transform_rules.specs.Samples.{Products}
use Rattle.transform_rules.proofs.Lengths.{dequantised_small}
use Rattle.transform.proofs.Tables.{figure_is}
use Rattle.transform.proofs.transform_block.Goals as goal

pub dequantise-requires : goal.dequantise-requires
dequantise-requires c = record { order_value = (figure_is, refl); block_in_bounds = (c.requires.block_in_bounds.0, c.requires.in_range.0.tabled) }

pub write_block-requires : goal.write_block-requires
write_block-requires c = record { products = subst Products (sym c.dequantise.ensures) (dequantised_small c.args.values.now c.args.quantisers.now c.args.block c.requires.in_range.0); centre_bound = rw (to_z-of_z c.ranges.centre) (c.requires.in_range.1, omega arith) }

pub returns : goal.returns
returns c = c.write_block.ensures ∙ rw (c.dequantise.ensures, to_z-of_z c.ranges.centre)
