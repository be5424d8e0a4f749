-- `packets::packet_here` meets its contract: what was tested is what the law of the quick look asks.
use mathlib.Core.Path.{sym, ◌∙◌}
use native.Mathlib.Omega.{arith}
use Rattle.packets.proofs.Quick.{here}
use Rattle.packets.proofs.packet_here.Goals as goal

pub returns : goal.returns
returns c =
    here _ _ _ (c.marked_here.ensures (c.if-not-marked_here.false)) (omega arith) (omega arith) (sym (c.from-size.ensures ∙ c.be16.ensures)) (omega (arith, c.be32.ensures))
