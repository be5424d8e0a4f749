-- The sRGB table follows M14 at each of its 256 entries, and the rule leaves no choice. Assumes nothing.
use mathlib.Core.Path.{◌≡◌, refl, sym, ◌∙◌}
use mathlib.Core.Logic.{⊎_elim}
use mathlib.Core.Bool.{Bool, true, false, cond, ◌&&◌}
use Prim.Native.Nat.{ℕ, ◌+◌, ◌-◌, ◌*◌, ◌^◌, ◌<◌, ◌≤◌}
use native.Mathlib.Nat.{pow-le-pow_left, mul-le-mul_right}
use native.Mathlib.Omega.{arith}
use lib.Dec.{T, eqb, leb, ltb, eqb→eq, leb→le, ltb→lt}
use lib.ListN.{length, get_or}
use Rattle.laws.proofs.Integers.{split}
use Rattle.laws.proofs.Lists.{each}
use Rattle.merge_rules.specs.Near.{nearest}
use Rattle.merge_rules.specs.Srgb.{srgb, srgb_rule}

pub srgb_long : length srgb ≡ 256
unfolding srgb
srgb_long = refl

pub srgb_rule_lem : (c : ℕ) → c < 256 → T (srgb_rule c (get_or srgb c 0))
unfolding srgb srgb_rule nearest
srgb_rule_lem = each 256 (λ c. srgb_rule c (get_or srgb c 0)) tt

-- ---- no other entry follows the rule

and_left : (a b : Bool) → T (a && b) → T a
and_left true b t = tt
and_left false b t = t

and_right : (a b : Bool) → T (a && b) → T b
and_right true b t = t
and_right false b t = absurd t

module _ (k x : ℕ) where
  between : ℕ → Bool
  between t = leb ((2 * t - 1) ^ 5 * k) x && ltb x ((2 * t + 1) ^ 5 * k)

  -- a larger entry begins where this one ends
  apart : (t u : ℕ) → T (between t) → T (between u) → t < u → ⊥
  unfolding between
  apart t u ht hu l =
      let high = ltb→lt x ((2 * t + 1) ^ 5 * k) (and_right (leb ((2 * t - 1) ^ 5 * k) x) _ ht) in
      let low = leb→le ((2 * u - 1) ^ 5 * k) x (and_left (leb ((2 * u - 1) ^ 5 * k) x) _ hu) in
      let step : (2 * t + 1) ^ 5 * k ≤ (2 * u - 1) ^ 5 * k = mul-le-mul_right k (pow-le-pow_left (omega arith) 5) in
      omega arith

  one_between : (t u : ℕ) → T (between t) → T (between u) → t ≡ u
  one_between t u ht hu =
      ⊎_elim (λ (l : t < u). absurd (apart t u ht hu l))
      (λ (l : u ≤ t). ⊎_elim (λ (g : u < t). absurd (apart u t hu ht g)) (λ (g : t ≤ u). let e : t ≡ u = omega arith in e) (split u t))
      (split t u)

by_part : (low : Bool) (n k x t u : ℕ) → T (cond low (eqb t n) (between k x t)) → T (cond low (eqb u n) (between k x u)) → t ≡ u
by_part true n k x t u ht hu = eqb→eq t n ht ∙ sym (eqb→eq u n hu)
by_part false n k x t u ht hu = one_between k x t u ht hu

pub srgb_one : (c t u : ℕ) → T (srgb_rule c t) → T (srgb_rule c u) → t ≡ u
unfolding srgb_rule between
srgb_one c t u ht hu = by_part (leb c 10) _ (53805 ^ 12) (131070 ^ 5 * (200 * c + 2805) ^ 12) t u ht hu
