-- Planes 1 to 3 of demand 3 are our two calls. Assumes nothing.
use mathlib.Core.Path.{◌≡◌}
use Prim.Native.Nat.{ℕ, ◌≤◌}
use lib.IntN.{ℤ}
use borrow.Author.Tests.{le-leb}
use Rattle.plane_rules.specs.Dc.{write_dc}
use Rattle.plane_rules.specs.AcWrite.{write_ac}
use Rattle.demands.specs.Three.{Both, Provided, together, write_plane}

pub ours : (j n : ℕ) (lent : Provided) (values : Both ℤ) → j ≤ 3
    → write_plane j n lent values ≡ together (write_dc j n values.dc lent.dc_room) (write_ac j n lent.table values.ac lent.ac_room)
unfolding write_plane
ours j n lent values l = rw (le-leb j 3 l)
