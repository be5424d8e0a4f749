-- The scaling of step 4 as it is computed, step 4 over a single number, and the sum of step 5. Assumes nothing.
use mathlib.Core.Path.{◌≡◌, sym, ap, ◌∙◌}
use Prim.Native.Nat.{ℕ, ◌+◌, ◌-◌, ◌*◌, ◌^◌, ◌≤◌}
use native.Mathlib.Omega.{arith}
use lib.Pow.{pow_pos, pow_mono, pow-add}
use lib.IntN.{ℤ, pos, neg_ℤ, nat_abs, ◌+ℤ◌, ◌-ℤ◌, ◌*ℤ◌}
use Rattle.laws.proofs.Integers.{abs_prod_le, abs_sum, abs_neg, *ℤ-assoc}
use Rattle.merge_rules.specs.Near.{nearest}
use Rattle.rounding.proofs.Laws.{nearest_scale, nearest_within}
use Rattle.merge_rules.specs.declared.Setting.{Setting}
use Rattle.merge_rules.specs.Pixels.{single, each}
use Rattle.merge_rules.specs.Steps.{scaled, step_four}
use Rattle.basis.proofs.Laws.{recolour_single}

-- ---- step 4's scaling, by sixteenths

module _ (rb rr : ℕ) (x : ℤ) (h : rr ≤ 4) where
  -- 2^Rr times 2^(4+Rb-Rr) is 16 times 2^Rb
  powers : 2 ^ rr * 2 ^ (rb + 4 - rr) ≡ 16 * 2 ^ rb
  powers = sym (pow-add 2 rr (rb + 4 - rr)) ∙ ap (λ n. 2 ^ n) whole ∙ pow-add 2 4 rb
    where
      whole : rr + (rb + 4 - rr) ≡ 4 + rb
      whole = omega arith

  pub scaled_sixteenths : nearest (pos (2 ^ (rb + 4 - rr)) *ℤ x) 16 ≡ scaled rb rr x
  unfolding scaled
  scaled_sixteenths =
      sym (nearest_scale (2 ^ rr) (pos (2 ^ (rb + 4 - rr)) *ℤ x) 16 (pow_pos rr) (omega arith))
      ∙ ap (λ (z : ℤ). nearest z (2 ^ rr * 16)) (sym (*ℤ-assoc (pos (2 ^ rr)) (pos (2 ^ (rb + 4 - rr))) x) ∙ ap (λ (n : ℕ). pos n *ℤ x) powers ∙ *ℤ-assoc (pos 16) (pos (2 ^ rb)) x)
      ∙ ap (nearest (pos 16 *ℤ (pos (2 ^ rb) *ℤ x))) turned
      ∙ nearest_scale 16 (pos (2 ^ rb) *ℤ x) (2 ^ rr) (omega arith) (pow_pos rr)
    where
      turned : 2 ^ rr * 16 ≡ 16 * 2 ^ rr
      turned = omega arith

  pub factor_below : rb ≤ 8 → 2 ^ (rb + 4 - rr) ≤ 4096
  factor_below g = pow_mono {i = rb + 4 - rr} {j = 12} (omega arith)

  pub sixteenths_below : rb ≤ 8 → nat_abs x ≤ 2147483648 → nat_abs (pos (2 ^ (rb + 4 - rr)) *ℤ x) ≤ 8796093022208
  sixteenths_below g k = abs_prod_le (pos (2 ^ (rb + 4 - rr))) x 4096 2147483648 (factor_below g) k

  pub scaled_below : rb ≤ 8 → nat_abs x ≤ 2147483648 → nat_abs (nearest (pos (2 ^ (rb + 4 - rr)) *ℤ x) 16) ≤ 549755813888
  scaled_below g k = nearest_within (pos (2 ^ (rb + 4 - rr)) *ℤ x) 16 549755813888 (omega arith) (omega (arith, sixteenths_below g k))

-- ---- step 5's sum

pub sum_below : (b r : ℤ) → nat_abs b ≤ 1125899906842624 → nat_abs r ≤ 6917529027641081857 → nat_abs (b +ℤ r) ≤ 6918654927547924481
sum_below b r h g = omega (arith, abs_sum b r)

pub difference_below : (a c : ℤ) → nat_abs a ≤ 6918654927547924481 → nat_abs c ≤ 32768 → nat_abs (a -ℤ c) ≤ 6918654927547957249
difference_below a c h g = omega (arith, abs_sum a (neg_ℤ c), abs_neg c)

-- ---- over a single number

pub four_single : (s : Setting) (r : ℤ) → step_four s (single r) ≡ single (scaled s.rb s.rr r)
unfolding step_four each
four_single s r = recolour_single s.residual_transform (pos (2 ^ (7 + s.rb))) (scaled s.rb s.rr r)
