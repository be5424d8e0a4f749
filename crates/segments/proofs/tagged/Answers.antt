-- `segments::tagged` meets its contract.
use borrow.Author.Tests.{lt-ltb, le-ltb, eq-eqb, ne_eqb}
use Rattle.box_rules.specs.Walk.{tagged}
use Rattle.segments.proofs.tagged.Goals as goal

pub returns-then-len-lt4 : goal.returns-then-len-lt4
unfolding tagged
returns-then-len-lt4 c = simp (lt-ltb _ _ c.if-len-lt4.true)

pub returns-then-file-m-eq74 : goal.returns-then-file-m-eq74
unfolding tagged
returns-then-file-m-eq74 c = simp (le-ltb _ _ c.if-len-lt4.false, eq-eqb _ _ c.if-file-m-eq74.true)

pub returns-else-file-m-eq74 : goal.returns-else-file-m-eq74
unfolding tagged
returns-else-file-m-eq74 c = simp (le-ltb _ _ c.if-len-lt4.false, ne_eqb _ _ c.if-file-m-eq74.false)
