-- Every sample of a preview is near. Assumes nothing.
use mathlib.Core.Path.{◌≡◌}
use Prim.Native.Nat.{◌+◌, ◌-◌, ◌*◌, ◌/◌, ◌%◌, ◌<◌}
use native.Mathlib.Nat.{le_trans}
use native.Mathlib.Omega.{arith}
use Rattle.demands.specs.Preview.{PicturesAreNear}
use Rattle.demands.proofs.Preview.{samples_owe, both_given, owed_by_largest}

pub pictures_are_near : PicturesAreNear
pictures_are_near k j n values quantisers largest few below a small p h =
    let place : p / 64 * 64 + (p % 64 / 8 * 8 + p % 64 % 8) ≡ p = omega arith in
    let y : p % 64 / 8 < 8 = omega arith in
    let x : p % 64 % 8 < 8 = omega arith in
    le_trans
    (rw place at (samples_owe k j n values quantisers _ _ (both_given k j n values quantisers few below a) (p / 64) (p % 64 / 8) (p % 64 % 8) (omega arith) y x))
    (owed_by_largest (k - j) largest quantisers small (p % 64 / 8) (p % 64 % 8) y x)
