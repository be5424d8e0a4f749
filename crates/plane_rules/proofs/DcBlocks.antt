-- A DC block before others, bit by bit. Assumes nothing.
use mathlib.Core.Path.{◌≡◌, refl}
use mathlib.Core.Bool.{Bool}
use mathlib.Core.List.{List, [], ◌∷◌}
use Prim.Native.Nat.{ℕ, suc}
use lib.IntN.{ℤ}
use Rattle.bit_rules.specs.Source.{Source, Out, got, stopped, take_bit}
use Rattle.bit_rules.specs.Reader.{and_then, done}
use Rattle.plane_rules.specs.Plane.{onto, in_block}
use Rattle.plane_rules.specs.Dc.{new_dc, dc_blocks}

-- its bit is taken, or it is the place of the stop
pub dc_first : (block : ℕ) (c : ℤ) (values : List ℤ) (s : Source) → dc_blocks block (c ∷ values) s ≡ in_block block (λ b t. onto (new_dc c b ∷ []) (dc_blocks (suc block) values t)) (take_bit s)
unfolding dc_blocks
dc_first block c values s = go (take_bit s)
  where
    go : (o : Out Bool)
        → in_block block (λ (r : List ℤ × Unit {0}) (t : Source). onto r.0 (dc_blocks (suc block) values t)) (and_then (λ (b : Bool). done (new_dc c b ∷ [], tt {0})) o)
        ≡ in_block block (λ b t. onto (new_dc c b ∷ []) (dc_blocks (suc block) values t)) o
    go (got b t) = refl
    go (stopped x) = refl
