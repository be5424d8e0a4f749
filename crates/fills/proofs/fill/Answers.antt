-- `fills::fill` meets its contract. Assumes nothing.
use Rattle.fills.proofs.Tones.{table_other, lent_there}
use Rattle.fills.proofs.fill.Goals as goal

pub fill_by-requires : goal.fill_by-requires
fill_by-requires c = record { lending = lent_there c.requires.passed c.in-Table.is table_other; pixels_in_bounds = c.requires.pixels_in_bounds }
