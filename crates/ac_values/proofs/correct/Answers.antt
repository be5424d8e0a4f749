-- `ac_values::correct` meets its contract. Assumes nothing.
use mathlib.Core.Path.{sym}
use mir.Syntax.{w32}
use mir.Facts.{to_z-of_z}
use Rattle.std.proofs.lemmas.Result.{err_from_is_err_and}
use Rattle.laws.proofs.Integers.{back}
use Rattle.bits.specs.Code.{read_as}
use Rattle.ac_values.specs.Code.{fixing}
use Rattle.ac_values.proofs.correct.Goals as goal

pub returns-in_err-bit : goal.returns-in_err-bit
unfolding fixing read_as
returns-in_err-bit c = let p = err_from_is_err_and c.from_residual.result c.from_residual.ensures.1 in
    rw (p.1, p.2) (record { taken = rw (sym c.in_err-bit.ensures.taken); kept = c.in_err-bit.ensures.kept })

pub returns-clause-taken : goal.returns-clause-taken
unfolding fixing read_as
returns-clause-taken c = rw (sym c.in_ok-bit.ensures.taken, back w32 _ c.corrected.type_inv, c.corrected.ensures, to_z-of_z c.ranges.value)
