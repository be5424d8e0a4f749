-- `settings::one_or_three` meets its contract. Assumes nothing.
use borrow.Author.Tests.{eq-eqb, ne_eqb}
use Rattle.settings.proofs.one_or_three.Goals as goal

pub returns-then-components-eq1 : goal.returns-then-components-eq1
returns-then-components-eq1 c = rw (eq-eqb c.args.components 1 c.if-components-eq1.true)

pub returns : goal.returns
returns c = rw (ne_eqb c.args.components 1 c.if-components-eq1.false)
