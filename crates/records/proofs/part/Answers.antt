-- `records::part` meets its contract. Assumes nothing.
use mathlib.Core.Path.{◌≡◌, sym}
use Prim.Native.Nat.{◌+◌, ◌-◌}
use native.Mathlib.Omega.{arith}
use Rattle.test_rules.proofs.Fields.{part_none, part_some}
use Rattle.records.proofs.part.Goals as goal

pub returns-then-bytes-at : goal.returns-then-bytes-at
returns-then-bytes-at c = sym (part_none _ _ _ (omega arith))

pub returns-then-bytes-at-2 : goal.returns-then-bytes-at-2
returns-then-bytes-at-2 c = sym (part_none _ _ _ (omega arith))

pub returns : goal.returns
returns c = let e : (c.args.at + c.args.n) - c.args.at ≡ c.args.n = omega arith in
    rw e (sym (part_some c.args.bytes.now c.args.at c.args.n (omega arith)))
