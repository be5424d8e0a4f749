-- `segments::packet_at` meets its contract: each return goes by the tests that led there.
use Rattle.box_rules.specs.Walk.{packet_at}
use borrow.Author.Tests.{lt-ltb, le-ltb, eq-eqb, ne_eqb}
use Rattle.segments.proofs.packet_at.Goals as goal

pub returns-then-len-lt18 : goal.returns-then-len-lt18
unfolding packet_at
returns-then-len-lt18 c = simp (lt-ltb _ _ c.if-len-lt18.true) c.broken.ensures

pub returns-then-len-lt26 : goal.returns-then-len-lt26
unfolding packet_at
returns-then-len-lt26 c = simp (le-ltb _ _ c.if-len-lt18.false, ← c.be32.ensures, eq-eqb _ _ c.if-be32-eq1.true, lt-ltb _ _ c.if-len-lt26.true) c.broken-then-len-lt26.ensures

pub returns-then-be32-eq1 : goal.returns-then-be32-eq1
unfolding packet_at
returns-then-be32-eq1 c = simp (le-ltb _ _ c.if-len-lt18.false, ← c.be32.ensures, eq-eqb _ _ c.if-be32-eq1.true, le-ltb _ _ c.if-len-lt26.false, ← c.long_head_at.ensures) c.held_at.ensures

pub returns : goal.returns
unfolding packet_at
returns c = simp (le-ltb _ _ c.if-len-lt18.false, ← c.be32.ensures, ne_eqb _ _ c.if-be32-eq1.false, ← c.head_at.ensures) c.held_at-2.ensures
