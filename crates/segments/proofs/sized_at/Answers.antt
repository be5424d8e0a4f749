-- `segments::sized_at` meets its contract: each return goes by the tests that led there.
use Rattle.box_rules.specs.Walk.{sized_at}
use borrow.Author.Tests.{lt-ltb, le-ltb}
use Rattle.segments.proofs.sized_at.Goals as goal

pub returns-then-file-m : goal.returns-then-file-m
unfolding sized_at
returns-then-file-m c = simp (lt-ltb _ _ c.if-file-m.true) c.broken.ensures

pub returns-then-len-lt2 : goal.returns-then-len-lt2
unfolding sized_at
returns-then-len-lt2 c = simp (← c.be16.ensures, ← c.from-len.ensures, le-ltb _ _ c.if-file-m.false, lt-ltb _ _ c.if-len-lt2.true) c.broken-then-len-lt2.ensures

pub returns-then-file-m-2 : goal.returns-then-file-m-2
unfolding sized_at
returns-then-file-m-2 c = simp (← c.be16.ensures, ← c.from-len.ensures, le-ltb _ _ c.if-file-m.false, le-ltb _ _ c.if-len-lt2.false, lt-ltb _ _ c.if-file-m-2.true) c.broken-then-file-m-2.ensures

pub returns : goal.returns
unfolding sized_at
returns c = simp (← c.be16.ensures, ← c.from-len.ensures, le-ltb _ _ c.if-file-m.false, le-ltb _ _ c.if-len-lt2.false, le-ltb _ _ c.if-file-m-2.false) c.whole_at.ensures
