-- Bounds of the curves: a product that fits 32 bits, a tone that fits 16, an index that is in its table; the loop that makes tones. Assumes nothing.
use mathlib.Core.Path.{◌≡◌, refl, ap, subst, ◌∙◌}
use mathlib.Core.Logic.{⊎_elim}
use mathlib.Core.List.{List}
use Prim.Native.Nat.{ℕ, ◌+◌, ◌*◌, ◌^◌, ◌≤◌, ◌<◌}
use native.Mathlib.Nat.{mul-le-mul, mul-le-mul_right}
use native.Mathlib.Omega.{arith}
use lib.IntN.{pos, nat_abs}
use lib.ListN.{length, set}
use lib.Seq.{get_or-set_same, get_or-set_other}
use Rattle.laws.proofs.Integers.{split}
use Rattle.merge_rules.specs.Near.{nearest, top}
use Rattle.rounding.proofs.Laws.{top_above, top_below, nearest_within}
use Rattle.merge_rules.specs.declared.Curve.{Curve}
use Rattle.merge_rules.specs.declared.Curve.TheVariants.{Table, Srgb}
use Rattle.merge_rules.specs.Curves.{straight, entries}
use Rattle.curves.specs.Code.{There, Tones}
use Rattle.merge_laws.proofs.SrgbRule.{srgb_long}

pub product_below : (x t : ℕ) → x < 65536 → t ≤ 65535 → x * t ≤ 4294836225
product_below x t h g = let k : x ≤ 65535 = omega arith in mul-le-mul k g

-- ---- the straight curve

-- it is no negative number
pub straight_positive : (rb rh x : ℕ) → straight rb rh x ≡ pos (nat_abs (straight rb rh x))
unfolding straight nearest
straight_positive rb rh x = refl

-- it ends at the top of the result's range
pub straight_small : (rb rh x : ℕ) → rb ≤ 8 → rh ≤ 4 → x ≤ top rh → nat_abs (straight rb rh x) ≤ 65535
unfolding straight
straight_small rb rh x hb hh hx =
    let within : x * top rb ≤ top rb * top rh = omega (arith, mul-le-mul_right (top rb) hx) in
    omega (arith, nearest_within (pos (x * top rb)) (top rh) (top rb) (omega (arith, top_above rh (omega arith))) within, top_below rb hb)

-- ---- a table of tones

pub tones_none : (rb rh : ℕ) (tones : List ℕ) → Tones rb rh 0 tones
tones_none rb rh tones = record { at = λ x h. absurd (omega arith) }

pub tones_one : {rb rh n : ℕ} {tones : List ℕ} → Tones rb rh n tones → n < length tones → (t : ℕ) → pos t ≡ straight rb rh n → Tones rb rh (n + 1) (set tones n t)
tones_one {rb} {rh} {n} {tones} done h t e =
    record {
      at = λ x below.
          ⊎_elim
          (λ (l : x < n). ap pos (get_or-set_other tones n x t 0 (λ q. omega arith)) ∙ done.at x l)
          (λ (l : n ≤ x). let q : x ≡ n = omega arith in rw q (ap pos (get_or-set_same tones n t 0 h) ∙ e))
          (split x n);
    }

-- ---- an index of a table

module _ {curve : Curve} {rh : ℕ} {table : List ℕ} (there : There curve rh table) (x : ℕ) (h : x ≤ top rh) where
  pub in_table : rh ≤ 4 → curve ≡ Table → x < length table
  unfolding entries
  in_table small e =
      let long : 2 ^ (8 + rh) ≤ length table = subst (λ k. entries k rh ≤ length table) e there.long in
      omega (arith, top_above rh (omega arith))

  pub in_srgb : curve ≡ Srgb → x < length table
  in_srgb e =
      let z : top rh ≡ 255 = ap top (there.plain e) in
      omega (arith, ap length (there.itself e), srgb_long)
