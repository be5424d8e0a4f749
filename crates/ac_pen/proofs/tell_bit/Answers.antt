-- `ac_pen::tell_bit` meets its contract. Assumes nothing.
use mathlib.Core.Path.{refl}
use mathlib.Core.List.{[], ◌∷◌}
use Rattle.ac_pen.proofs.Tokens.{told_bits}
use native.Mathlib.Omega.{arith}
use Rattle.ac_pen.proofs.tell_bit.Goals as goal

pub put_bit-putter-requires : goal.put_bit-putter-requires
put_bit-putter-requires c = record { sound = c.requires.0; at_bound = omega (arith, c.requires.1) }

pub returns : goal.returns
returns c = λ T. told_bits (c.args.bit ∷ []) c.put_bit-putter.ensures refl
