-- `codes::take_code` meets its contract: what is left to read gives what the whole gives. Assumes nothing.
use mathlib.Core.Path.{refl}
use native.Mathlib.Omega.{arith}
use Rattle.std.proofs.lemmas.Result.{err_from_is_err_and}
use Rattle.bits.specs.Code.{read_as}
use Rattle.bit_rules.proofs.Digits.{bin_small}
use Rattle.codes.proofs.Reading.{here_first, here_small, here_none, here_stopped, here_room, here_found, here_on}
use Rattle.codes.proofs.take_code.Goals as goal

pub loop-count-init : goal.loop-count-init
loop-count-init c = record { read = here_first _ c.requires _; kept = refl }

pub returns-in_err-b : goal.returns-in_err-b
unfolding read_as
returns-in_err-b c = let p = err_from_is_err_and c.from_residual.result c.from_residual.ensures.1 in
    rw (p.1, p.2) (record { taken = here_stopped c.loop-count.invariant.read c.loop-count-test.true c.in_err-b.ensures.taken; kept = c.loop-count.invariant.kept })

pub overflow_mul-over : goal.overflow_mul-over
overflow_mul-over c = omega (arith, here_small c.loop-count.invariant.read c.requires c.loop-count-test.true)

pub overflow_add-over : goal.overflow_add-over
overflow_add-over c = omega (arith, bin_small c.in_ok-b.b, here_small c.loop-count.invariant.read c.requires c.loop-count-test.true)

pub bounds-values-place : goal.bounds-values-place
unfolding read_as
bounds-values-place c = here_room c.loop-count.invariant.read c.loop-count-test.true c.in_ok-b.ensures.taken (rw c.from-n.ensures at c.if-over-n.true)

pub returns-then-over-n-clause-taken : goal.returns-then-over-n-clause-taken
unfolding read_as
returns-then-over-n-clause-taken c = here_found c.loop-count.invariant.read c.loop-count-test.true c.in_ok-b.ensures.taken (rw c.from-n.ensures at c.if-over-n.true)

pub loop-count-preserved : goal.loop-count-preserved
unfolding read_as
loop-count-preserved c = record { read = rw c.from-n.ensures (here_on c.loop-count.invariant.read c.loop-count-test.true c.in_ok-b.ensures.taken (rw c.from-n.ensures at c.if-over-n.false)); kept = c.loop-count.invariant.kept }

pub returns : goal.returns
unfolding read_as
returns c = record { taken = rw c.stop.ensures (here_none c.loop-count.invariant.read c.loop-count-test.false); kept = c.loop-count.invariant.kept }
