-- `pixel::alone_three` meets its contract. Assumes nothing.
use mir.Syntax.{w64}
use Rattle.laws.proofs.Integers.{back}
use Rattle.merge_rules.specs.Pixels.{each}
use Rattle.pixel.proofs.alone_three.Goals as goal

pub returns : goal.returns
unfolding each
returns c = rw (c.alone.ensures, c.alone-2.ensures, c.alone-3.ensures, back w64 c.args.b.first c.struct_told-1.given.0.1, back w64 c.args.b.second c.struct_told-1.given.1.0.1, back w64 c.args.b.third c.struct_told-1.given.1.1.0.1)
