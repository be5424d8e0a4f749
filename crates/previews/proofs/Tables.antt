-- The source's tables are the rules of the definitions, and how large their numbers are; the second four rows of the kernel have the magnitudes of the first. Assumes nothing.
use mathlib.Core.Path.{◌≡◌, refl, ◌∙◌}
use mathlib.Core.List.{List, [], ◌∷◌}
use Prim.Native.Nat.{ℕ, ◌+◌, ◌*◌, ◌/◌, ◌%◌, ◌^◌, ◌<◌, ◌≤◌}
use native.Mathlib.Omega.{arith}
use lib.Arith.{digits_div, digits_mod}
use lib.Dec.{eqb, leb, leb→le, eqb→eq}
use lib.ListN.{length, get_or}
use Rattle.laws.specs.Index.{tab}
use Rattle.laws.proofs.Lists.{length_tab, get_or_tab, each}
use Rattle.laws.proofs.Powers.{one_moved}
use Rattle.transform_rules.specs.Cosines.{nine_cosines, half_turn, full_turn, kernel}
use Rattle.transform_rules.specs.Zigzag.{zigzag_at, zigzag_order}
use Rattle.previews.specs.Code.{magnitude, magnitude_table, fold}

-- |K(x,u)| at 8x + u
abbrev pub magnitudes : List ℕ
magnitudes =
    5793 ∷ 8035 ∷ 7568 ∷ 6811 ∷ 5793 ∷ 4551 ∷ 3135 ∷ 1598
    ∷ 5793 ∷ 6811 ∷ 3135 ∷ 1598 ∷ 5793 ∷ 8035 ∷ 7568 ∷ 4551
    ∷ 5793 ∷ 4551 ∷ 3135 ∷ 8035 ∷ 5793 ∷ 1598 ∷ 7568 ∷ 6811
    ∷ 5793 ∷ 1598 ∷ 7568 ∷ 4551 ∷ 5793 ∷ 6811 ∷ 3135 ∷ 8035 ∷ []

pub magnitudes_are : magnitudes ≡ magnitude_table
unfolding magnitude_table tab magnitude kernel full_turn half_turn nine_cosines
magnitudes_are = refl

pub table_long : length magnitude_table ≡ 32
unfolding magnitude_table
table_long = length_tab 32 _

pub magnitude_at : (x u : ℕ) → x < 4 → u < 8 → get_or magnitude_table (x * 8 + u) 0 ≡ magnitude x u
unfolding magnitude_table
magnitude_at x u hx hu = get_or_tab 32 (λ k. magnitude (k / 8) (k % 8)) 0 (x * 8 + u) (omega arith) ∙ rw (digits_div x hu, digits_mod x hu)

module _ (x u : ℕ) (hx : x < 8) (hu : u < 8) where
  pub magnitude_small : magnitude x u ≤ 8192
  unfolding magnitude kernel full_turn half_turn nine_cosines
  magnitude_small =
      rw (digits_div x hu, digits_mod x hu) at (leb→le (magnitude ((x * 8 + u) / 8) ((x * 8 + u) % 8)) 8192 (each 64 (λ p. leb (magnitude (p / 8) (p % 8)) 8192) tt (x * 8 + u) (omega arith)))

  pub mirrored : magnitude (fold x) u ≡ magnitude x u
  unfolding fold magnitude kernel full_turn half_turn nine_cosines
  mirrored =
      rw (digits_div x hu, digits_mod x hu) at (eqb→eq (magnitude (fold ((x * 8 + u) / 8)) ((x * 8 + u) % 8)) (magnitude ((x * 8 + u) / 8) ((x * 8 + u) % 8)) (each 64 (λ p. eqb (magnitude (fold (p / 8)) (p % 8)) (magnitude (p / 8) (p % 8))) tt (x * 8 + u) (omega arith)))

pub fold_small : (i : ℕ) → i < 8 → fold i < 4
unfolding fold
fold_small i h = omega arith

pub order_at : (p : ℕ) → p < 64 → get_or zigzag_order p 0 ≡ zigzag_at p
unfolding zigzag_order
order_at p h = get_or_tab 64 zigzag_at 0 p h

pub order_long : length zigzag_order ≡ 64
unfolding zigzag_order
order_long = length_tab 64 zigzag_at

pub power_small : (left : ℕ) → left ≤ 4 → 2 ^ left ≤ 16
power_small left h = leb→le (2 ^ left) 16 (each 5 (λ k. leb (2 ^ k) 16) tt left (omega arith))

-- what the code makes of 1 << left
pub power_moved : (left : ℕ) → left ≤ 4 → 1 * 2 ^ left % 18446744073709551616 ≡ 2 ^ left
power_moved left h = one_moved left 18446744073709551616 (omega (arith, power_small left h))
