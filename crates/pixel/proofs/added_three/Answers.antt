-- `pixel::added_three` meets its contract. Assumes nothing.
use mir.Syntax.{w64}
use Rattle.laws.proofs.Integers.{back}
use Rattle.merge_rules.specs.Pixels.{both}
use Rattle.pixel.proofs.added_three.Goals as goal

pub returns : goal.returns
unfolding both
returns c = rw (c.added.ensures, c.added-2.ensures, c.added-3.ensures, back w64 c.args.b.first c.struct_told-1.given.0.1, back w64 c.args.b.second c.struct_told-1.given.1.0.1, back w64 c.args.b.third c.struct_told-1.given.1.1.0.1, back w64 c.args.r.first c.struct_told-2-1.given.0.1, back w64 c.args.r.second c.struct_told-2-1.given.1.0.1, back w64 c.args.r.third c.struct_told-2-1.given.1.1.0.1)
