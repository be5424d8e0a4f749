-- `asking::instance_of` meets its contract. Assumes nothing.
use Rattle.asking.specs.Words.{instance_of}
use borrow.Author.Tests.{le-leb, lt-leb}
use mathlib.Core.Path.{sym, ◌∙◌}
use Rattle.asking.proofs.instance_of.Goals as goal

pub returns-then-is_empty : goal.returns-then-is_empty
unfolding instance_of
returns-then-is_empty c = rw (sym c.is_empty.ensures ∙ c.if-is_empty.true)

pub returns-in-None : goal.returns-in-None
unfolding instance_of
returns-in-None c = rw (sym c.is_empty.ensures ∙ c.if-is_empty.false, sym c.read_number.ensures ∙ c.in-None.is)

pub returns-then-value-le65535 : goal.returns-then-value-le65535
unfolding instance_of
returns-then-value-le65535 c = rw (sym c.is_empty.ensures ∙ c.if-is_empty.false, sym c.read_number.ensures ∙ c.in-Some.is, le-leb _ _ c.if-value-le65535.true)

pub returns-else-value-le65535 : goal.returns-else-value-le65535
unfolding instance_of
returns-else-value-le65535 c = rw (sym c.is_empty.ensures ∙ c.if-is_empty.false, sym c.read_number.ensures ∙ c.in-Some.is, lt-leb _ _ c.if-value-le65535.false)
