-- `basis::first_centre` meets its contract. Assumes nothing.
use mir.Syntax.{w64}
use Rattle.laws.proofs.Integers.{back}
use Rattle.merge_rules.specs.Steps.{first_centre}
use Rattle.basis.proofs.first_centre.Goals as goal

pub returns : goal.returns
unfolding first_centre
returns c = rw (back w64 c.centre_of.result c.centre_of.type_inv) c.centre_of.ensures
