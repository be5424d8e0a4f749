-- L1 to L5: the range of a value at a level.
use Rattle.std.specs.Prelude.{Bool, true, false, ◌&&◌, List, ℕ, ◌+◌, ◌^◌, ◌%◌, eqb, ltb, ℤ, pos, negsuc, nat_abs, length, get_or, Option}
use Rattle.std.specs.Int.Signed.{lt_z}
use Rattle.laws.specs.First.{first_fail}
use Rattle.levels.specs.declared.Part.{Part}
use Rattle.levels.specs.declared.Part.TheVariants.{Dc, Ac, Whole}

-- L3: "an AC value lies in -(2^(11+j)-1) to 2^(11+j)-1"
abbrev pub ac_in : ℕ → ℤ → Bool
ac_in level value = ltb (nat_abs value) (2 ^ (11 + level))

-- L4: "and DC in -2^(11+j) to 2^(11+j)-1"; negsuc n is -(n+1)
abbrev pub dc_in : ℕ → ℤ → Bool
dc_in level (pos n) = ltb n (2 ^ (11 + level))
dc_in level (negsuc n) = ltb n (2 ^ (11 + level))

-- L3, L4: a DC value by its range, an AC value by its own
unfoldable pub in_level : Bool → ℕ → ℤ → Bool
in_level true level value = dc_in level value
in_level false level value = ac_in level value

-- L1, L2: "64 a block for the transform, 1 for a DC plane, 63 for an AC plane"
unfoldable pub is_dc : Part → ℕ → Bool
is_dc Dc index = true
is_dc Ac index = false
is_dc Whole index = eqb (index % 64) 0

-- N11, L5: the value at an index is in its range
unfoldable pub inside : Part → ℕ → List ℤ → ℕ → Bool
inside part level values index = in_level (is_dc part index) level (get_or values index (pos 0))

-- N11, L5: 11, "value out of range", "first index"
unfoldable pub first_outside : Part → ℕ → List ℤ → Option ℕ
first_outside part level values = first_fail (length values) (inside part level values)

-- the value at an index lies between two bounds; where those are the AC range's, the value is in every range
unfoldable pub between : ℤ → ℤ → List ℤ → ℕ → Bool
between low high values index = lt_z low (get_or values index (pos 0)) && lt_z (get_or values index (pos 0)) high
