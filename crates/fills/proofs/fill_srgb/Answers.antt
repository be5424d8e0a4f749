-- `fills::fill_srgb` meets its contract. Assumes nothing.
use mathlib.Core.Path.{◌∙◌, ap}
use mathlib.Core.List.{◌++◌}
use lib.ListN.{drop}
use Rattle.merge_rules.specs.Settings.{samples}
use Rattle.fills.proofs.Tones.{srgb_there, srgb_alike}
use Rattle.fills.proofs.fill_srgb.Goals as goal

pub fill_by-requires : goal.fill_by-requires
fill_by-requires c = record { lending = srgb_there c.requires.passed.0 c.requires.passed.1 _ c.srgb_table-tones.ensures; pixels_in_bounds = c.requires.pixels_in_bounds }

pub returns : goal.returns
returns c = c.fill_by.ensures
    ∙ ap (λ l. l ++ drop (samples c.args.s c.args.pixels) c.args.destination.now) (srgb_alike c.requires.passed.0 c.requires.passed.1 _ c.srgb_table-tones.ensures)
