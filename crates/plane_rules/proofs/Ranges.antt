-- What the tests of plane and blocks are worth. Assumes nothing.
use mathlib.Core.Path.{◌≡◌}
use mathlib.Core.Bool.{true}
use Prim.Native.Nat.{ℕ, ◌≤◌}
use borrow.Author.Tests.{leb-true, le-leb}
use Rattle.laws.specs.Index.{every}
use Rattle.laws.proofs.Lists.{every_first, every_rest}
use Rattle.plane_rules.specs.Plane.{readable}

pub record Ranged (plane blocks : ℕ) : Type 0 where
  pub low : 1 ≤ plane
  pub high : plane ≤ 4
  pub few : blocks ≤ 1024

pub ranged : (plane blocks : ℕ) → every (readable plane blocks) ≡ true → Ranged plane blocks
ranged plane blocks e =
    let e1 = every_rest _ _ e in
    record {
      low = leb-true 1 plane (every_first _ _ e);
      high = leb-true plane 4 (every_first _ _ e1);
      few = leb-true blocks 1024 (every_first _ _ (every_rest _ _ e1));
    }

pub in_range : (plane blocks : ℕ) → 1 ≤ plane → plane ≤ 4 → blocks ≤ 1024 → every (readable plane blocks) ≡ true
unfolding every
in_range plane blocks a b c = rw (le-leb 1 plane a, le-leb plane 4 b, le-leb blocks 1024 c)
