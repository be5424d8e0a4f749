-- `packets::begins` meets its contract.
use borrow.Author.Tests.{lt-ltb, le-ltb, eq-eqb, ne_eqb}
use Rattle.box_rules.specs.Walk.{begins}
use Rattle.packets.proofs.begins.Goals as goal

pub returns-then-file-lt2 : goal.returns-then-file-lt2
unfolding begins
returns-then-file-lt2 c = simp (lt-ltb _ _ c.if-file-lt2.true)

pub returns-then-file : goal.returns-then-file
unfolding begins
returns-then-file c = simp (le-ltb _ _ c.if-file-lt2.false, eq-eqb _ _ c.if-file.true)

pub returns-else-file : goal.returns-else-file
unfolding begins
returns-else-file c = simp (le-ltb _ _ c.if-file-lt2.false, ne_eqb _ _ c.if-file.false)
