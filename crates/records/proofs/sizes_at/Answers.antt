-- `records::sizes_at` meets its contract: before index i the list is read. Assumes nothing.
use mathlib.Core.Path.{refl}
use Prim.Native.Nat.{◌*◌}
use native.Mathlib.Omega.{arith}
use lib.ListN.{length}
use Rattle.test_rules.specs.Fields.{pair_at, size_at}
use Rattle.records.proofs.Lists.{reading_start, reading_turn, reading_end}
use Rattle.test_rules.proofs.Fields.{on_later, pair_behind}
use Rattle.records.proofs.sizes_at.Goals as goal

pub loop-size-init : goal.loop-size-init
unfolding size_at
loop-size-init c = reading_start (λ k. refl)

pub loop-size-preserved : goal.loop-size-preserved
loop-size-preserved c = reading_turn c.loop-size.invariant (omega arith) c.pair_at.ensures.0
    (λ k. rw c.past-next.ensures (on_later (pair_at c.args.bytes.now) 0 (length c.args.bytes.now) c.loop-size.next 2 (2 * k) (pair_behind c.args.bytes.now)))

pub returns : goal.returns
returns c = reading_end c.loop-size.invariant (omega arith)
