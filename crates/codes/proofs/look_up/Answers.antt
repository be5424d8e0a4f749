-- `codes::look_up` meets its contract: what is left to read gives what the whole gives. Assumes nothing.
use mathlib.Core.Path.{refl}
use Rattle.std.proofs.lemmas.Result.{err_from_is_err_and}
use Rattle.bits.specs.Code.{read_as}
use Rattle.codes.proofs.Looking.{here_first, here_none, here_stopped, here_room, here_found, here_on}
use Rattle.codes.proofs.look_up.Goals as goal

pub loop-l-init : goal.loop-l-init
loop-l-init c = record { read = here_first c.requires _; kept = refl }

pub returns-in_err-bit : goal.returns-in_err-bit
unfolding read_as
returns-in_err-bit c = let p = err_from_is_err_and c.from_residual.result c.from_residual.ensures.1 in
    rw (p.1, p.2) (record { taken = here_stopped c.requires c.loop-l.invariant.read c.loop-l-test.true c.in_err-bit.ensures.taken; kept = c.loop-l.invariant.kept })

pub overflow_sub-result : goal.overflow_sub-result
unfolding read_as
overflow_sub-result c = (here_room c.requires c.loop-l.invariant.read c.loop-l-test.true c.in_ok-bit.ensures.taken c.from.ensures c.if-code-from.true c.from-smallest.ensures c.from-position.ensures).0

pub bounds-values-position : goal.bounds-values-position
unfolding read_as
bounds-values-position c = (here_room c.requires c.loop-l.invariant.read c.loop-l-test.true c.in_ok-bit.ensures.taken c.from.ensures c.if-code-from.true c.from-smallest.ensures c.from-position.ensures).1

pub returns-then-code-from-clause-taken : goal.returns-then-code-from-clause-taken
unfolding read_as
returns-then-code-from-clause-taken c = here_found c.requires c.loop-l.invariant.read c.loop-l-test.true c.in_ok-bit.ensures.taken c.from.ensures c.if-code-from.true c.from-smallest.ensures c.from-position.ensures

pub loop-l-preserved : goal.loop-l-preserved
unfolding read_as
loop-l-preserved c = record { read = here_on c.requires c.loop-l.invariant.read c.loop-l-test.true c.in_ok-bit.ensures.taken c.from.ensures c.if-code-from.false; kept = c.loop-l.invariant.kept }

pub returns : goal.returns
unfolding read_as
returns c = record { taken = rw c.stop.ensures (here_none c.requires c.loop-l.invariant.read c.loop-l-test.false); kept = c.loop-l.invariant.kept }
