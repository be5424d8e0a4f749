-- `dc_writer::dc_bit` meets its contract. Assumes nothing.
use mir.Facts.{to_z-of_z}
use Rattle.planes.proofs.LowBit.{low_bit}
use Rattle.dc_writer.proofs.dc_bit.Goals as goal

pub returns : goal.returns
returns c = rw (to_z-of_z c.ranges.value) (low_bit _ c.ranges.value)
