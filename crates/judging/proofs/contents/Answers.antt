-- `judging::contents` meets its contract.
use Rattle.box_rules.specs.Box.{contents}
use native.Mathlib.Omega.{arith}
use Rattle.judging.proofs.contents.Goals as goal

pub returns-then-h : goal.returns-then-h
unfolding contents
returns-then-h c = omega arith

pub returns-else-h : goal.returns-else-h
unfolding contents
returns-else-h c = omega arith
