-- `bit_putter::store` meets its contract: past the end `set` changes nothing. Assumes nothing.
use mathlib.Core.Path.{sym}
use lib.Seq.{set_out}
use Rattle.bit_putter.proofs.store.Goals as goal

pub returns-else-at-destination : goal.returns-else-at-destination
returns-else-at-destination c = sym (set_out _ _ _ c.if-at-destination.false)
