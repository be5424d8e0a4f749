-- `ac_plan::quiet_of` meets its contract: the quiet blocks passed, and those from here on, are those from the first on. Assumes nothing.
use mathlib.Core.Path.{◌≡◌, refl, ap, ◌∙◌}
use Prim.Native.Nat.{ℕ, ◌+◌, ◌-◌, ◌*◌}
use mathlib.Core.List.{List}
use lib.IntN.{ℤ}
use lib.ListN.{take, drop}
use Rattle.plane_rules.specs.AcWrite.{ahead}
use Rattle.ac_plan.specs.Code.{kinds_from}
use Rattle.ac_plan.proofs.Looking.{passed_none, passed_all, passed_one, passed_new}
use native.Mathlib.Omega.{arith}
use Rattle.ac_plan.proofs.quiet_of.Goals as goal

-- the n-th block behind has 63 values
block_at : (later : List ℤ) (n : ℕ) → ahead (kinds_from (take (63 * n + 63 - 63 * n) (drop (63 * n) later)) 0) ≡ ahead (kinds_from (take 63 (drop (63 * n) later)) 0)
block_at later n =
    let size : 63 * n + 63 - 63 * n ≡ 63 = omega arith in
    ap (λ (k : ℕ). ahead (kinds_from (take k (drop (63 * n) later)) 0)) size

pub loop-n-init : goal.loop-n-init
loop-n-init c = passed_none _ _

pub returns-in-Some : goal.returns-in-Some
returns-in-Some c = passed_new c.loop-n.invariant _ c.loop-n-test.true refl (c.ahead_of.ensures ∙ block_at c.args.later.now c.loop-n.n) c.in-Some.is

pub loop-n-preserved : goal.loop-n-preserved
loop-n-preserved c = passed_one c.loop-n.invariant _ c.loop-n-test.true refl (c.ahead_of.ensures ∙ block_at c.args.later.now c.loop-n.n) c.in_default.is

pub returns : goal.returns
returns c = passed_all c.loop-n.invariant (omega arith)
