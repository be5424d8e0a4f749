-- `choices::matrix_count` meets its contract. Assumes nothing.
use Rattle.merge_rules.specs.Call.{matrix_count}
use Rattle.choices.proofs.matrix_count.Goals as goal

pub returns-in-On : goal.returns-in-On
unfolding matrix_count
returns-in-On c = rw c.in-On.is

pub returns-in-None : goal.returns-in-None
unfolding matrix_count
returns-in-None c = rw c.in-None.is
