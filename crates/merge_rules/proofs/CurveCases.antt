-- The curves at chosen numbers, worked out by hand from the rules and computed on the definitions. Assumes nothing.
use mathlib.Core.Path.{◌≡◌, refl}
use mathlib.Core.Bool.{true, false}
use mathlib.Core.List.{[], ◌∷◌, map}
use Prim.Native.Nat.{ℕ}
use lib.IntN.{pos}
use lib.ListN.{get_or}
use Rattle.merge_rules.specs.Near.{nearest}
use Rattle.merge_rules.specs.declared.Curve.TheVariants.{Straight, Table, Srgb}
use Rattle.merge_rules.specs.Srgb.{srgb, srgb_rule}
use Rattle.merge_rules.specs.Curves.{straight, curved, entries}

-- "nearest to x(2^(8+Rb)-1)/(2^(8+Rh)-1)": Rb 4, Rh 0 is x 4095/255 (g: 128 gives 2056), Rb 1, Rh 4 is x 511/4095
pub straight_both_ways : map (straight 4 0) (0 ∷ 1 ∷ 128 ∷ 255 ∷ []) ≡ pos 0 ∷ pos 16 ∷ pos 2056 ∷ pos 4095 ∷ []
unfolding straight nearest
straight_both_ways = refl

pub straight_down : map (straight 1 4) (4 ∷ 5 ∷ 2048 ∷ 4095 ∷ []) ≡ pos 0 ∷ pos 1 ∷ pos 256 ∷ pos 511 ∷ []
unfolding straight nearest
straight_down = refl

-- the three curves at 1: 4095/255, the entry of the lent table, the entry of the sRGB table
pub each_curve : map (λ k. curved k 4 0 (7 ∷ 9 ∷ 11 ∷ []) 1) (Straight ∷ Table ∷ Srgb ∷ []) ≡ pos 16 ∷ pos 9 ∷ pos 20 ∷ []
unfolding curved straight nearest srgb
each_curve = refl

-- "a lent table of 2^(8+Rh) numbers", at Rh 4 and 0; the others have none
pub table_lengths : map (λ k. entries k 4) (Straight ∷ Table ∷ Srgb ∷ []) ≡ 0 ∷ 4096 ∷ 0 ∷ []
unfolding entries
table_lengths = refl

pub table_least : entries Table 0 ≡ 256
unfolding entries
table_least = refl

-- h. "sRGB: 0, 1, 10, 255 give 0, 20, 199, 65535"; by IEC 61966-2-1 itself 9 is 179.02 on the line, and 12 is 240.95 on the curve
pub case_h : map (λ c. get_or srgb c 0) (0 ∷ 1 ∷ 9 ∷ 10 ∷ 12 ∷ 255 ∷ []) ≡ 0 ∷ 20 ∷ 179 ∷ 199 ∷ 241 ∷ 65535 ∷ []
unfolding srgb
case_h = refl

-- the rule: 9 is on the line (the curve would give 180), 12 on the curve (the line would give 239), and the neighbours of each are wrong
pub rule_told : map (λ (p : ℕ × ℕ). srgb_rule p.0 p.1) ((9, 178) ∷ (9, 179) ∷ (9, 180) ∷ (12, 239) ∷ (12, 240) ∷ (12, 241) ∷ (12, 242) ∷ (255, 65534) ∷ (255, 65535) ∷ [])
    ≡ false ∷ true ∷ false ∷ false ∷ false ∷ true ∷ false ∷ false ∷ true ∷ []
unfolding srgb_rule nearest
rule_told = refl
