-- The source's tables are the rules of the definitions. Assumes nothing.
use mathlib.Core.Path.{◌≡◌, refl}
use mathlib.Core.Bool.{not}
use mathlib.Core.List.{List, [], ◌∷◌}
use Prim.Native.Nat.{ℕ, ◌+◌, ◌^◌, ◌<◌, ◌≤◌}
use native.Mathlib.Omega.{arith}
use lib.Dec.{T, eqb, leb, leb→le}
use lib.IntN.{pos, nat_abs}
use lib.ListN.{length, get_or}
use Rattle.laws.specs.Index.{tab}
use Rattle.laws.proofs.Lists.{length_tab, get_or_tab, all_below, each}
use Rattle.transform_rules.specs.Zigzag.{first_row, last_row, places_before, zigzag, zigzag_at, zigzag_order}
use Rattle.transform_rules.specs.Picture.{centre}

-- ---- the zigzag order

-- T.81, Figure 5, as printed: row v, column u
abbrev figure : List ℕ
figure =
    0 ∷ 1 ∷ 5 ∷ 6 ∷ 14 ∷ 15 ∷ 27 ∷ 28
    ∷ 2 ∷ 4 ∷ 7 ∷ 13 ∷ 16 ∷ 26 ∷ 29 ∷ 42
    ∷ 3 ∷ 8 ∷ 12 ∷ 17 ∷ 25 ∷ 30 ∷ 41 ∷ 43
    ∷ 9 ∷ 11 ∷ 18 ∷ 24 ∷ 31 ∷ 40 ∷ 44 ∷ 53
    ∷ 10 ∷ 19 ∷ 23 ∷ 32 ∷ 39 ∷ 45 ∷ 52 ∷ 54
    ∷ 20 ∷ 22 ∷ 33 ∷ 38 ∷ 46 ∷ 51 ∷ 55 ∷ 60
    ∷ 21 ∷ 34 ∷ 37 ∷ 47 ∷ 50 ∷ 56 ∷ 59 ∷ 61
    ∷ 35 ∷ 36 ∷ 48 ∷ 49 ∷ 57 ∷ 58 ∷ 62 ∷ 63 ∷ []

pub figure_is : figure ≡ zigzag_order
unfolding zigzag_order tab zigzag_at zigzag places_before first_row last_row
figure_is = refl

pub order_long : length zigzag_order ≡ 64
unfolding zigzag_order
order_long = length_tab 64 zigzag_at

pub order_at : (p : ℕ) → p < 64 → get_or zigzag_order p 0 ≡ zigzag_at p
unfolding zigzag_order
order_at p h = get_or_tab 64 zigzag_at 0 p h

-- each of the 64 indices has a place: no value and no quantiser is left out, and so none is used twice
pub zigzag_meets : (i : ℕ) → i < 64 → T (not (all_below 64 (λ p. not (eqb (zigzag_at p) i))))
unfolding zigzag_at zigzag places_before first_row last_row
zigzag_meets i h = each 64 (λ k. not (all_below 64 (λ p. not (eqb (zigzag_at p) k)))) tt i h

-- ---- the centres

pub centre_in : (r : ℕ) → r ≤ 4 → get_or (pos 128 ∷ pos 256 ∷ pos 512 ∷ pos 1024 ∷ pos 2048 ∷ []) r (pos 0) ≡ centre r
unfolding tab centre
centre_in r h = get_or_tab 5 centre (pos 0) r (omega arith)

pub centre_small : (r : ℕ) → r ≤ 4 → nat_abs (centre r) ≤ 2048
unfolding centre
centre_small r h = leb→le (2 ^ (7 + r)) 2048 (each 5 (λ k. leb (2 ^ (7 + k)) 2048) tt r (omega arith))
