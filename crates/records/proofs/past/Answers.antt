-- `records::past` meets its contract. Assumes nothing.
use mathlib.Core.Path.{sym}
use native.Mathlib.Omega.{arith}
use Rattle.test_rules.proofs.Fields.{on_inside, on_end}
use Rattle.records.proofs.past.Goals as goal

pub returns-then-n-length : goal.returns-then-n-length
returns-then-n-length c = sym (on_inside _ _ _ (omega arith))

pub returns : goal.returns
returns c = sym (on_end _ _ _ (omega arith))
