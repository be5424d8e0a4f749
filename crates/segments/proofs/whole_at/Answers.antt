-- `segments::whole_at` meets its contract.
use borrow.Author.Tests.{eq-eqb, ne_eqb}
use Rattle.box_rules.specs.Walk.{whole_at}
use Rattle.segments.proofs.whole_at.Goals as goal

pub returns-then-file-m : goal.returns-then-file-m
unfolding whole_at
returns-then-file-m c = simp (ne_eqb _ _ c.if-file-m.true)

pub returns-then-tagged : goal.returns-then-tagged
unfolding whole_at
returns-then-tagged c = simp (← c.tagged.ensures, eq-eqb _ _ c.if-file-m.false, c.if-tagged.true) c.packet_at.ensures

pub returns : goal.returns
unfolding whole_at
returns c = simp (← c.tagged.ensures, eq-eqb _ _ c.if-file-m.false, c.if-tagged.false)
