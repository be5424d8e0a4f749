-- The row of 28. Assumes nothing.
use mathlib.Core.Path.{◌≡◌, refl}
use mathlib.Core.Bool.{true}
use Prim.Native.Nat.{ℕ, ◌≤◌, ◌<◌}
use native.Mathlib.Omega.{arith}
use borrow.Author.Tests.{leb-false, lt-leb}
use lib.Dec.{leb}
use Rattle.laws.specs.Index.{every}
use Rattle.answers.specs.Verdict.{Verdict, need}
use Rattle.plane_rules.specs.Plane.{readable, our_writer, writable}
use Rattle.plane_rules.proofs.Ranges.{ranged}
use Rattle.demands.specs.One.{Rows, row, ◌then◌, retired}
use Rattle.demands.proofs.Rows.{Judged, need_judged}

-- 28: of the planes that there are, the fourth is the one that our writer does not write
pub retired_judged : {later : Rows} {room : ℕ} (plane blocks : ℕ) → every (readable plane blocks) ≡ true → (next : Verdict ℕ) → (writable our_writer plane ≡ true → Judged later room next)
    → Judged (row 28 (retired plane) then later) room (need (writable our_writer plane) 28 0 next)
retired_judged plane blocks e next =
    let high : plane ≤ 4 = (ranged plane blocks e).high in
    need_judged (retired plane) (leb plane 3) 28 0 next
    (λ f. let above : 3 < plane = leb-false plane 3 f in (refl, omega arith))
    (λ q h. let same : plane ≡ 4 = h.1 in (lt-leb plane 3 (omega arith), h.0))
