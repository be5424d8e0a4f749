-- What the loop of `transform::dequantise` keeps.
use mathlib.Core.Path.{◌≡◌}
use mathlib.Core.List.{List}
use Prim.Native.Nat.{ℕ, ◌+◌, ◌*◌}
use lib.IntN.{ℤ, pos}
use lib.ListN.{get_or}
use Rattle.laws.proofs.Fill.{front}
use Rattle.transform_rules.specs.Zigzag.{zigzag_at}
use Rattle.transform_rules.specs.Picture.{times_quantiser}
use Rattle.transform.proofs.dequantise.Given as goal

abbrev pub product-of : List ℤ → List ℕ → ℕ → ℕ → ℤ
product-of values quantisers block p = times_quantiser (get_or values (block * 64 + zigzag_at p) (pos 0)) (get_or quantisers (zigzag_at p) 0)

abbrev pub invariant-loop-p : goal.invariant-loop-p
invariant-loop-p l = l.s ≡ front l.initial.s (product-of l.values l.quantisers l.block) l.p
