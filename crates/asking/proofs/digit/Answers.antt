-- `asking::digit` meets its contract: each return goes by the tests that led there.
use Rattle.asking.specs.Words.{digit}
use mathlib.Core.Path.{refl}
use native.Mathlib.Omega.{arith}
use borrow.Author.Tests.{lt-ltb, le-ltb}
use Rattle.asking.proofs.digit.Goals as goal

pub returns-then-b-lt48 : goal.returns-then-b-lt48
unfolding digit
returns-then-b-lt48 c = simp (lt-ltb _ _ c.if-b-lt48.true) (refl, omega arith)

pub returns-then-b-lt58 : goal.returns-then-b-lt58
unfolding digit
returns-then-b-lt58 c = simp (le-ltb _ _ c.if-b-lt48.false, lt-ltb _ _ c.if-b-lt58.true) (refl, omega arith)

pub returns-then-b-lt65 : goal.returns-then-b-lt65
unfolding digit
returns-then-b-lt65 c = simp (le-ltb _ _ c.if-b-lt48.false, le-ltb _ _ c.if-b-lt58.false, lt-ltb _ _ c.if-b-lt65.true) (refl, omega arith)

pub returns-then-b-lt71 : goal.returns-then-b-lt71
unfolding digit
returns-then-b-lt71 c = simp (le-ltb _ _ c.if-b-lt48.false, le-ltb _ _ c.if-b-lt58.false, le-ltb _ _ c.if-b-lt65.false, lt-ltb _ _ c.if-b-lt71.true) (refl, omega arith)

pub returns-then-b-lt97 : goal.returns-then-b-lt97
unfolding digit
returns-then-b-lt97 c = simp (le-ltb _ _ c.if-b-lt48.false, le-ltb _ _ c.if-b-lt58.false, le-ltb _ _ c.if-b-lt65.false, le-ltb _ _ c.if-b-lt71.false, lt-ltb _ _ c.if-b-lt97.true) (refl, omega arith)

pub returns-then-b-lt103 : goal.returns-then-b-lt103
unfolding digit
returns-then-b-lt103 c = simp (le-ltb _ _ c.if-b-lt48.false, le-ltb _ _ c.if-b-lt58.false, le-ltb _ _ c.if-b-lt65.false, le-ltb _ _ c.if-b-lt71.false, le-ltb _ _ c.if-b-lt97.false, lt-ltb _ _ c.if-b-lt103.true) (refl, omega arith)

pub returns : goal.returns
unfolding digit
returns c = simp (le-ltb _ _ c.if-b-lt48.false, le-ltb _ _ c.if-b-lt58.false, le-ltb _ _ c.if-b-lt65.false, le-ltb _ _ c.if-b-lt71.false, le-ltb _ _ c.if-b-lt97.false, le-ltb _ _ c.if-b-lt103.false) (refl, omega arith)
