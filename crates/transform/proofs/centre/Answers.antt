-- `transform::centre` meets its contract: the table holds the centres. Assumes nothing.
use mathlib.Core.Path.{◌∙◌}
use mir.Syntax.{w64}
use Rattle.laws.proofs.Integers.{back}
use Rattle.transform.proofs.Tables.{centre_in}
use Rattle.transform.proofs.centre.Goals as goal

pub returns : goal.returns
returns c = back w64 _ c.result-2-1.given ∙ centre_in c.args.refinement c.requires
