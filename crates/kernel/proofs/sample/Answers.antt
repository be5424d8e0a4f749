-- `kernel::sample` meets its contract: the double sum, rounded. Assumes nothing.
use mathlib.Core.Path.{◌∙◌}
use mir.Syntax.{w32, w64}
use mir.Facts.{to_z-of_z}
use Rattle.laws.proofs.Integers.{back}
use Rattle.transform_rules.specs.Samples.{sample}
use Rattle.kernel.proofs.Bounds.{double_small}
use Rattle.kernel.proofs.sample.Goals as goal

pub rounded-requires : goal.rounded-requires
rounded-requires c = rw (back w64 c.double_sum-sum.result c.double_sum-sum.type_inv, c.double_sum-sum.ensures, to_z-of_z c.ranges.centre) (double_small c.args.s.now c.requires.table_value.1 c.args.x c.args.y c.requires.centre_bound.1.0 c.requires.centre_bound.1.1, c.requires.centre_bound.0)

pub returns : goal.returns
unfolding sample
returns c = back w32 c.rounded.result c.rounded.type_inv ∙ c.rounded.ensures ∙ rw (back w64 c.double_sum-sum.result c.double_sum-sum.type_inv, c.double_sum-sum.ensures, to_z-of_z c.ranges.centre)
