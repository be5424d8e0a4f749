-- `reader_c::xt_merge` meets its promise: the setting is made of what the numbers name. Assumes nothing.
use Rattle.merge_rules.specs.Call.{setting_of}
use Rattle.reader_c.proofs.xt_merge.Goals as goal

pub returns : goal.returns
unfolding setting_of
returns c = rw (← c.colour-2.ensures, ← c.colour.ensures, ← c.curve_of.ensures, ← c.matrix_of.ensures, ← c.weights_of.ensures, ← c.residual_of.ensures, ← c.known-named.ensures)
    c.merge_or_not-a.ensures
