-- `basis::matrixed` meets its contract. Assumes nothing.
use native.Mathlib.Omega.{arith}
use mir.Syntax.{w64}
use Rattle.laws.proofs.Integers.{back}
use Rattle.merge_rules.specs.Steps.{matrixed, step_three}
use Rattle.basis.proofs.matrixed.Goals as goal

pub returns-in-None : goal.returns-in-None
unfolding matrixed step_three
returns-in-None c = (rw c.in-None.is, record { first_small = omega (arith, c.requires.first_small); second_small = omega (arith, c.requires.second_small); third_small = omega (arith, c.requires.third_small) })

pub returns-in-On : goal.returns-in-On
unfolding matrixed step_three
returns-in-On c = rw (back w64 c.weighted-first.result c.weighted-first.type_inv, back w64 c.weighted-second.result c.weighted-second.type_inv, back w64 c.weighted-third.result c.weighted-third.type_inv, c.in-On.is)
    (rw (c.weighted-first.ensures.0, c.weighted-second.ensures.0, c.weighted-third.ensures.0), record { first_small = c.weighted-first.ensures.1; second_small = c.weighted-second.ensures.1; third_small = c.weighted-third.ensures.1 })
