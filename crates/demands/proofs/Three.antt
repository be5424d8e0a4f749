-- Demand 3 holds, and its conditions can be met. Assumes nothing.
use mathlib.Core.Path.{◌≡◌, ap₂, ◌∙◌}
use mathlib.Core.List.{List}
use Rattle.std.specs.Prelude.{Some}
use Prim.Native.Nat.{ℕ, zero, suc, ◌-◌, ◌*◌, ◌≤◌, ◌<◌}
use native.Mathlib.Omega.{arith}
use lib.IntN.{ℤ}
use lib.ListN.{length, length-map}
use Rattle.plane_rules.specs.Dc.{dc_bytes}
use Rattle.plane_rules.specs.AcWrite.{ac_bytes}
use Rattle.plane_rules.specs.Levels.{downward, toward_zero}
use Rattle.plane_rules.proofs.Levels.{level_full, level_inside, climbed}
use Rattle.trips.proofs.DcTrip.{dc_halving, dc_written_lem, dc_read_lem}
use Rattle.trips.proofs.AcTrip.{ac_halving, ac_written_lem, ac_read_lem}
use Rattle.demands.specs.Three.{Both, Within, level_of, Provided, Enough, writer_of, write_plane, read_plane, Refined, DemandThree, CanBeMet}
use Rattle.demands.proofs.Held.{every_code, every_good, every_held}
use Rattle.demands.proofs.Writers.{theirs}

module _ (k n : ℕ) (full : Both ℤ) (lent : ℕ → Provided) (few : k ≤ 4) (a : Within k n full) (enough : (j : ℕ) → 1 ≤ j → j ≤ k → Enough n (level_of k full j) (lent j)) where
  bytes : ℕ → Both ℕ
  bytes j = record { dc = dc_bytes (level_of k full j).dc; ac = ac_bytes n (lent j).table (level_of k full j).ac }

  written : (j : ℕ) → 1 ≤ j → j ≤ k → write_plane j n (lent j) (level_of k full j) ≡ Some (bytes j)
  unfolding bytes level_of write_plane
  written zero h l = absurd (omega arith)
  written (suc j) h l =
      let e = enough (suc j) h l in
      rw (dc_written_lem k n few a.few full.dc a.dc_count a.dc_range (writer_of (suc j)) j (lent (suc j)).dc_room (theirs (suc j)) l e.dc_room, ac_written_lem k n few a.few full.ac a.ac_count a.ac_range (lent (suc j)).table j l e.good e.codes (writer_of (suc j)) (lent (suc j)).ac_room (theirs (suc j)) e.ac_room)

  next : (j : ℕ) → j < k → read_plane (suc j) n (lent (suc j)) (bytes (suc j)) (level_of k full j) ≡ Some (level_of k full (suc j))
  unfolding bytes level_of read_plane
  next j l =
      let e = enough (suc j) (omega arith) l in
      rw (dc_read_lem k n few a.few full.dc a.dc_count a.dc_range j (lent (suc j)).dc_space l e.dc_space, ac_read_lem k n few a.few full.ac a.ac_count a.ac_range (lent (suc j)).table j l e.good e.codes (lent (suc j)).ac_space e.ac_space)

  within : (j : ℕ) → j ≤ k → Within j n (level_of k full j)
  unfolding level_of
  within j l = record {
    few = a.few;
    dc_count = length-map full.dc (downward (k - j)) ∙ a.dc_count;
    ac_count = length-map full.ac (toward_zero (k - j)) ∙ a.ac_count;
    dc_range = level_inside dc_halving k full.dc a.dc_range j l;
    ac_range = level_inside ac_halving k full.ac a.ac_range j l;
  }

  whole : level_of k full k ≡ full
  unfolding level_of
  whole = ap₂ (λ (dc ac : List ℤ). record { dc = dc; ac = ac }) (level_full dc_halving k full.dc) (level_full ac_halving k full.ac)

  refined : Refined k n full lent
  refined = record {
    plane = bytes;
    written = written;
    after = climbed (λ i values. read_plane i n (lent i) (bytes i) values) (level_of k full) k next;
    whole = whole;
    within = within;
  }

pub demand_three : DemandThree
demand_three = refined

pub can_be_met : CanBeMet
can_be_met n values = (record { table = every_code; dc_room = length (dc_bytes values.dc); ac_room = length (ac_bytes n every_code values.ac); dc_space = n; ac_space = 63 * n }, record { good = every_good; codes = every_held n values.ac; dc_room = omega arith; ac_room = omega arith; dc_space = omega arith; ac_space = omega arith })
