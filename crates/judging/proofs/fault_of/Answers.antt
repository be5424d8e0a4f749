-- `judging::fault_of` meets its contract.
use Rattle.scans.proofs.InOrder.{rises_twice}
use Rattle.judging.proofs.Answers.{ordered_fine, searched_fine, searched_twice, searched_once, searched_missing}
use mathlib.Core.Path.{sym, ◌∙◌}
use Rattle.judging.proofs.fault_of.Goals as goal

pub returns-then-c : goal.returns-then-c
returns-then-c c = ordered_fine _ _ _ (sym c.requires.orders ∙ c.if-c.true)

pub returns-then-c-2 : goal.returns-then-c-2
returns-then-c-2 c = searched_missing _ _ _ c.requires.lengths c.first_missing.ensures c.in-Some.is (rises_twice _ (sym c.requires.rising ∙ c.if-c-2.true))

pub returns-in-None : goal.returns-in-None
returns-in-None c = searched_fine _ _ _ c.requires.lengths c.first_missing.ensures c.in-None.is

pub returns-in-Some-first_twice : goal.returns-in-Some-first_twice
returns-in-Some-first_twice c = searched_twice _ _ _ c.first_twice.ensures c.in-Some-first_twice.is

pub returns-in-None-first_twice : goal.returns-in-None-first_twice
returns-in-None-first_twice c = searched_missing _ _ _ c.requires.lengths c.first_missing.ensures c.in-Some.is (searched_once _ _ _ c.first_twice.ensures c.in-None-first_twice.is)
