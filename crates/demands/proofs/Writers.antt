-- Planes 1 to 3 are our writer's, and the rules write every plane. Assumes nothing.
use mathlib.Core.Path.{◌≡◌, refl}
use mathlib.Core.Bool.{Bool, true, false, cond}
use Prim.Native.Nat.{ℕ}
use lib.Dec.{leb}
use Rattle.plane_rules.specs.Plane.{our_writer, the_rules, writable}
use Rattle.demands.specs.Three.{writer_of}

-- planes 1 to 3 are our writer's, and the rules write every plane
pub theirs : (j : ℕ) → writable (writer_of j) j ≡ true
theirs j = go (leb j 3) refl
  where
    go : (b : Bool) → leb j 3 ≡ b → writable (cond b our_writer the_rules) j ≡ true
    go true e = e
    go false e = refl
