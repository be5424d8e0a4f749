-- What words ask for, worked out by hand and computed: both sides of each edge.
use mathlib.Core.Path.{◌≡◌, refl}
use mathlib.Core.List.{[], ◌∷◌}
use Rattle.std.specs.Prelude.{Some, None}
use Rattle.asking.specs.Words.{digit, read_from, type_of, instance_of}

-- the bytes in front of, in and behind 0 to 9, A to F and a to f
pub digits : (digit 47 ∷ digit 48 ∷ digit 57 ∷ digit 58 ∷ digit 64 ∷ digit 65 ∷ digit 70 ∷ digit 71 ∷ digit 96 ∷ digit 97 ∷ digit 102 ∷ digit 103 ∷ [])
    ≡ (255 ∷ 0 ∷ 9 ∷ 255 ∷ 255 ∷ 10 ∷ 15 ∷ 255 ∷ 255 ∷ 10 ∷ 15 ∷ 255 ∷ [])
unfolding digit
digits = refl

-- LPTS; 4C505453, 4c505453, FFFFFFFF; three, five, seven and nine letters; a letter that is no digit
pub types : (type_of (0x4C ∷ 0x50 ∷ 0x54 ∷ 0x53 ∷ []) ≡ Some 0x4C505453)
    × (type_of (52 ∷ 67 ∷ 53 ∷ 48 ∷ 53 ∷ 52 ∷ 53 ∷ 51 ∷ []) ≡ Some 0x4C505453)
    × (type_of (52 ∷ 99 ∷ 53 ∷ 48 ∷ 53 ∷ 52 ∷ 53 ∷ 51 ∷ []) ≡ Some 0x4C505453)
    × (type_of (70 ∷ 70 ∷ 70 ∷ 70 ∷ 70 ∷ 70 ∷ 70 ∷ 70 ∷ []) ≡ Some 4294967295)
    × (type_of [] ≡ None)
    × (type_of (70 ∷ 70 ∷ 70 ∷ []) ≡ None)
    × (type_of (70 ∷ 70 ∷ 70 ∷ 70 ∷ 70 ∷ []) ≡ None)
    × (type_of (70 ∷ 70 ∷ 70 ∷ 70 ∷ 70 ∷ 70 ∷ 70 ∷ []) ≡ None)
    × (type_of (48 ∷ 70 ∷ 70 ∷ 70 ∷ 70 ∷ 70 ∷ 70 ∷ 70 ∷ 70 ∷ []) ≡ None)
    × (type_of (52 ∷ 67 ∷ 53 ∷ 48 ∷ 53 ∷ 52 ∷ 53 ∷ 71 ∷ []) ≡ None)
unfolding digit read_from type_of
types = (refl, refl, refl, refl, refl, refl, refl, refl, refl, refl)

-- no digit; 0, 65535, 65536, 1A, 0000000012, 99999999999
pub instances : (instance_of [] ≡ None)
    × (instance_of (48 ∷ []) ≡ Some 0)
    × (instance_of (54 ∷ 53 ∷ 53 ∷ 51 ∷ 53 ∷ []) ≡ Some 65535)
    × (instance_of (54 ∷ 53 ∷ 53 ∷ 51 ∷ 54 ∷ []) ≡ None)
    × (instance_of (49 ∷ 65 ∷ []) ≡ None)
    × (instance_of (48 ∷ 48 ∷ 48 ∷ 48 ∷ 48 ∷ 48 ∷ 48 ∷ 48 ∷ 49 ∷ 50 ∷ []) ≡ Some 12)
    × (instance_of (57 ∷ 57 ∷ 57 ∷ 57 ∷ 57 ∷ 57 ∷ 57 ∷ 57 ∷ 57 ∷ 57 ∷ 57 ∷ []) ≡ None)
unfolding digit read_from instance_of
instances = (refl, refl, refl, refl, refl, refl, refl)
