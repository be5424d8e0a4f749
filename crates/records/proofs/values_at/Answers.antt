-- `records::values_at` meets its contract: before index i the list is read. Assumes nothing.
use mathlib.Core.Path.{refl, ap, ◌∙◌}
use Prim.Native.Nat.{◌*◌}
use native.Mathlib.Omega.{arith}
use lib.ListN.{length}
use mir.Syntax.{w32}
use Rattle.laws.proofs.Integers.{back}
use Rattle.test_rules.specs.Fields.{lowered, number_at, value_at}
use Rattle.records.proofs.Lists.{reading_start, reading_turn, reading_end}
use Rattle.test_rules.proofs.Fields.{on_later, number_behind}
use Rattle.records.proofs.values_at.Goals as goal

pub loop-value-init : goal.loop-value-init
unfolding value_at
loop-value-init c = reading_start (λ k. refl)

pub loop-value-preserved : goal.loop-value-preserved
loop-value-preserved c = reading_turn c.loop-value.invariant (omega arith) (back w32 c.lowered.result c.lowered.type_inv ∙ c.lowered.ensures ∙ ap lowered c.number_at.ensures.0)
    (λ k. rw c.past-next.ensures (on_later (λ p. lowered (number_at c.args.bytes.now p)) (lowered 0) (length c.args.bytes.now) c.loop-value.next 4 (4 * k) (λ p h. ap lowered (number_behind c.args.bytes.now p h))))

pub returns : goal.returns
returns c = reading_end c.loop-value.invariant (omega arith)
