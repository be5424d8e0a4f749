-- `desk::asked` meets its contract. Assumes nothing.
use mathlib.Core.Path.{refl, sym, ◌∙◌}
use borrow.Author.Tests.{lt-ltb, le-ltb}
use Rattle.desk.specs.Desk.{Replies}
use Rattle.desk.proofs.asked.Goals as goal

pub returns-then-k-gt4294967295 : goal.returns-then-k-gt4294967295
unfolding Replies
returns-then-k-gt4294967295 c = rw (sym c.type_of-kind.ensures ∙ c.in-Some.is, sym c.instance_of-instance.ensures ∙ c.in-Some-instance.is, lt-ltb _ _ c.if-k-gt4294967295.true) (refl, refl)

pub returns-then-i-gt65535 : goal.returns-then-i-gt65535
unfolding Replies
returns-then-i-gt65535 c = rw (sym c.type_of-kind.ensures ∙ c.in-Some.is, sym c.instance_of-instance.ensures ∙ c.in-Some-instance.is, le-ltb _ _ c.if-k-gt4294967295.false, lt-ltb _ _ c.if-i-gt65535.true) (refl, refl)

pub returns-in-None : goal.returns-in-None
unfolding Replies
returns-in-None c = rw (sym c.type_of-kind.ensures ∙ c.in-None.is) (refl, refl)

pub returns-in-None-instance : goal.returns-in-None-instance
unfolding Replies
returns-in-None-instance c = rw (sym c.type_of-kind.ensures ∙ c.in-Some.is, sym c.instance_of-instance.ensures ∙ c.in-None-instance.is) (refl, refl)

pub returns-else-i-gt65535 : goal.returns-else-i-gt65535
unfolding Replies
returns-else-i-gt65535 c = rw (sym c.type_of-kind.ensures ∙ c.in-Some.is, sym c.instance_of-instance.ensures ∙ c.in-Some-instance.is, le-ltb _ _ c.if-k-gt4294967295.false, le-ltb _ _ c.if-i-gt65535.false)
    c.served.ensures
