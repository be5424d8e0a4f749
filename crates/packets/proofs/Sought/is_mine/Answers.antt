-- `packets::Sought::is_mine` meets its contract.
use Rattle.box_rules.specs.Packets.{is_mine}
use borrow.Author.Tests.{eq-eqb, ne_eqb}
use Rattle.packets.proofs.Sought.is_mine.Goals as goal

pub returns-then-head-self : goal.returns-then-head-self
unfolding is_mine
returns-then-head-self c = simp (eq-eqb _ _ c.if-head-self.true)

pub returns-else-head-self : goal.returns-else-head-self
unfolding is_mine
returns-else-head-self c = simp (ne_eqb _ _ c.if-head-self.false)
