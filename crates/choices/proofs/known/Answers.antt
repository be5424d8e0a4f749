-- `choices::known` meets its contract: the tests in their order. Assumes nothing.
use mathlib.Core.Path.{sym}
use borrow.Author.Tests.{lt-ltb, le-ltb}
use Rattle.laws.specs.Index.{every}
use Rattle.laws.proofs.Tests.{every_last}
use Rattle.merge_rules.specs.Call.{known}
use Rattle.choices.proofs.known.Goals as goal

pub returns-then-base-ge2 : goal.returns-then-base-ge2
unfolding known every
returns-then-base-ge2 c = rw (le-ltb _ _ c.if-base-ge2.true)

pub returns-then-curve-ge3 : goal.returns-then-curve-ge3
unfolding known every
returns-then-curve-ge3 c = rw (lt-ltb _ _ c.if-base-ge2.false, le-ltb _ _ c.if-curve-ge3.true)

pub returns-then-matrix-ge2 : goal.returns-then-matrix-ge2
unfolding known every
returns-then-matrix-ge2 c = rw (lt-ltb _ _ c.if-base-ge2.false, lt-ltb _ _ c.if-curve-ge3.false, le-ltb _ _ c.if-matrix-ge2.true)

pub returns-then-residual-ge2 : goal.returns-then-residual-ge2
unfolding known every
returns-then-residual-ge2 c = rw (lt-ltb _ _ c.if-base-ge2.false, lt-ltb _ _ c.if-curve-ge3.false, lt-ltb _ _ c.if-matrix-ge2.false, le-ltb _ _ c.if-residual-ge2.true)

pub returns : goal.returns
unfolding known every
returns c = rw (lt-ltb _ _ c.if-base-ge2.false, lt-ltb _ _ c.if-curve-ge3.false, lt-ltb _ _ c.if-matrix-ge2.false, lt-ltb _ _ c.if-residual-ge2.false)
    (sym (every_last _))
