-- `kernel::write_block` meets its contract: the table that it makes is the kernel's. Assumes nothing.
use mathlib.Core.Path.{◌∙◌}
use mir.Facts.{to_z-of_z}
use Rattle.kernel.proofs.Tables.{kernels_are}
use Rattle.kernel.proofs.write_block.Goals as goal

pub write_samples-requires : goal.write_samples-requires
write_samples-requires c = record { table_value = (kernels_are, c.requires.products); centre_bound = rw (to_z-of_z c.ranges.centre) c.requires.centre_bound }

pub returns : goal.returns
returns c = c.write_samples.ensures ∙ rw (to_z-of_z c.ranges.centre)
