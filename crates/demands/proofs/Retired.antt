-- Level 4 is no longer written, and nothing else changes. Assumes nothing.
use mathlib.Core.Path.{◌≡◌, refl, sym, ◌∙◌}
use mathlib.Core.Bool.{Bool, true, false}
use Prim.Native.Nat.{ℕ, ◌≤◌, ◌<◌}
use native.Mathlib.Omega.{arith}
use lib.Dec.{eqb, leb}
use borrow.Author.Tests.{eqb-true, eq-eqb, leb-true, leb-false, le-leb, lt-leb}
use Rattle.laws.specs.Index.{every}
use Rattle.laws.proofs.Choices.{true_false}
use Rattle.answers.specs.Verdict.{Verdict, need}
use Rattle.plane_rules.specs.Plane.{readable, our_writer, writable}
use Rattle.plane_rules.specs.Dc.{written_dc}
use Rattle.plane_rules.specs.AcWrite.{written_ac}
use Rattle.trips.proofs.DcTrip.{dc_accepted}
use Rattle.trips.proofs.AcTrip.{ac_accepted}
use Rattle.demands.specs.Retired.{but_level_four, LevelFour}
use Rattle.demands.proofs.RetiredOurs.{ours}

-- 28 between 20 and the rest: for plane 4 alone, where 20 is not given
one_more : (plane blocks : ℕ) (rest : Verdict ℕ)
    → need (every (readable plane blocks)) 20 0 (need (writable our_writer plane) 28 0 rest) ≡ but_level_four plane blocks (need (every (readable plane blocks)) 20 0 rest)
unfolding every
one_more plane blocks rest = go (leb plane 3) (eqb plane 4) (leb blocks 1024) refl refl refl
  where
    go : (below four few : Bool) → leb plane 3 ≡ below → eqb plane 4 ≡ four → leb blocks 1024 ≡ few
        → need (every (readable plane blocks)) 20 0 (need (leb plane 3) 28 0 rest) ≡ but_level_four plane blocks (need (every (readable plane blocks)) 20 0 rest)
    go true true few b f m = let l : plane ≤ 3 = leb-true plane 3 b in let e : plane ≡ 4 = eqb-true plane 4 f in absurd (omega arith)
    go true false few b f m = rw (b, f)
    go false true true b f m = let e : plane ≡ 4 = eqb-true plane 4 f in rw (e, m)
    go false true false b f m = let e : plane ≡ 4 = eqb-true plane 4 f in rw (e, m)
    go false false few b f m =
        let l : 3 < plane = leb-false plane 3 b in
        let n : plane ≡ 4 → ⊥ = λ e. true_false (sym (eq-eqb plane 4 e) ∙ f) in
        rw (f, le-leb 1 plane (omega arith), lt-leb plane 4 (omega (arith, n)))

pub level_four : LevelFour
unfolding written_dc written_ac
level_four = record {
  dc_written = λ plane blocks values room. one_more plane blocks _;
  ac_written = λ plane blocks codes values room. one_more plane blocks _;
  dc_stored = dc_accepted;
  ac_stored = ac_accepted;
  ours = ours;
}
