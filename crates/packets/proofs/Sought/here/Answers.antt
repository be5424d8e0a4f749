-- `packets::Sought::here` meets its contract.
use mathlib.Core.Path.{ap, sym, ◌∙◌}
use Rattle.box_rules.specs.Packets.{is_mine}
use Rattle.packets.proofs.Quick.{mine_packed}
use Rattle.packets.proofs.Sought.here.Goals as goal

pub returns-then-is_mine : goal.returns-then-is_mine
returns-then-is_mine c =
    mine_packed _ _ _ _ _ c.in_ok-len.ensures (ap (is_mine _ _) (sym c.head_at.ensures) ∙ sym c.is_mine.ensures ∙ c.if-is_mine.true)
