-- What the code's putter stands for, worked out by hand and computed. Assumes nothing.
use mathlib.Core.Path.{◌≡◌, refl}
use mathlib.Core.List.{[], ◌∷◌, ◌++◌}
use mathlib.Core.Bool.{false}
use Rattle.bit_rules.specs.Pack.{stuffed, padded, packed}
use Rattle.bit_putter.specs.Code.{finishing}
use Rattle.bit_rules.proofs.BitCases.{ones, zeros}

-- bytes stand at their place as far as there is room, and are counted past it: in hand a 1, then 011 0011: B3; then FF 00 over the end
pub puts : (
    finishing (7 ∷ 7 ∷ 7 ∷ []) (record { at = 1; held = 1; room = 6 }) (false ∷ ones 2 ++ (zeros 2 ++ ones 2))
    ∷ finishing (7 ∷ []) (record { at = 0; held = 1; room = 6 }) (ones 7)
    ∷ finishing [] (record { at = 4; held = 0; room = 7 }) (ones 8)
    ∷ [])
    ≡ (record { memory = 7 ∷ 0xb3 ∷ 7 ∷ []; count = 2 } ∷ record { memory = 0xff ∷ []; count = 2 } ∷ record { memory = []; count = 6 } ∷ [])
unfolding stuffed padded packed finishing
puts = refl
