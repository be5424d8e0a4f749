-- What the tests behind 20 and 21 say when they are passed. Assumes nothing.
use borrow.Author.Tests.{leb-true, eqb-true}
use mathlib.Core.Path.{◌≡◌, sym, ap, ◌∙◌}
use mathlib.Core.Logic.{◌⊎◌, inl, inr}
use mathlib.Core.Bool.{true, cond}
use mathlib.Core.List.{List, [], ◌∷◌}
use Prim.Native.Nat.{ℕ, ◌*◌, ◌≤◌}
use native.Mathlib.Nat.{mul-le-mul}
use native.Mathlib.Omega.{arith}
use lib.Dec.{eqb, leb}
use lib.IntN.{ℤ}
use lib.ListN.{length}
use Rattle.laws.specs.Index.{every}
use Rattle.laws.proofs.Lists.{every_first, every_rest}
use Rattle.merge_rules.specs.declared.Curve.{Curve}
use Rattle.merge_rules.specs.declared.Curve.TheVariants.{Srgb}
use Rattle.merge_rules.specs.Curves.{entries}
use Rattle.curves.specs.Code.{There}
use Rattle.merge_rules.specs.declared.Setting.{Setting}
use Rattle.merge_rules.specs.Steps.{by_curve}
use Rattle.merge_rules.specs.Settings.{one_or_three, in_ranges, srgb_allowed, is_srgb, samples, residual_count, lengths_right}
use Rattle.merge_rules.proofs.Components.{one_or_three_lem}
use Rattle.settings.specs.Code.{Ranged, Passed, Lending}

pub count_small : (c n : ℕ) → one_or_three c ≡ true → n ≤ 65536 → c * n ≤ 196608
count_small c n e h = mul-le-mul (three (one_or_three_lem c e)) h
  where
    three : (c ≡ 1) ⊎ (c ≡ 3) → c ≤ 3
    three (inl q) = omega arith
    three (inr q) = omega arith

-- 20's ranges, passed
pub ranged : (s : Setting) (n : ℕ) → in_ranges s n ≡ true → Ranged s n
unfolding in_ranges
ranged s n e =
    let e₂ = every_rest (leb 1 s.rb) _ e in
    let e₃ = every_rest (leb s.rb 8) _ e₂ in
    let e₄ = every_rest (leb s.rh 4) _ e₃ in
    let e₅ = every_rest (leb s.rr 4) _ e₄ in
    let e₆ = every_rest (one_or_three s.components) _ e₅ in
    record {
      rb_small = leb-true s.rb 8 (every_first (leb s.rb 8) _ e₂);
      rh_small = leb-true s.rh 4 (every_first (leb s.rh 4) _ e₃);
      rr_small = leb-true s.rr 4 (every_first (leb s.rr 4) _ e₄);
      components_right = every_first (one_or_three s.components) _ e₅;
      pixels_few = leb-true n 65536 (every_first (leb n 65536) _ e₆);
    }

-- the sRGB curve is straight below
plain_srgb : (curve : Curve) (rh rb : ℕ) → cond (is_srgb curve) (every (eqb rh 0 ∷ eqb rb 8 ∷ [])) true ≡ true → curve ≡ Srgb → rh ≡ 0
plain_srgb curve rh rb e q = eqb-true rh 0 (every_first (eqb rh 0) (eqb rb 8 ∷ []) (sym (ap (λ k. cond (is_srgb k) (every (eqb rh 0 ∷ eqb rb 8 ∷ [])) true) q) ∙ e))

-- 20 and 21 passed
pub passed : (s : Setting) (n : ℕ) (base residual : List ℤ) (table : List ℕ) → Ranged s n → srgb_allowed s ≡ true → lengths_right s n base residual table ≡ true
    → Passed s n base residual table
unfolding srgb_allowed lengths_right residual_count
passed s n base residual table r a e =
    let e₂ = every_rest (eqb (length base) (samples s n)) _ e in
    let e₃ = every_rest (eqb (length residual) (residual_count s.residual (samples s n))) _ e₂ in
    record {
      ranged = r;
      plain = plain_srgb s.curve s.rh s.rb a;
      base_long = eqb-true (length base) (samples s n) (every_first (eqb (length base) (samples s n)) _ e);
      residual_long = λ q. eqb-true (length residual) (residual_count s.residual (samples s n)) (every_first (eqb (length residual) (residual_count s.residual (samples s n))) _ e₂) ∙ ap (λ k. residual_count k (samples s n)) q;
      table_long = eqb-true (length table) (entries s.curve s.rh) (every_first (eqb (length table) (entries s.curve s.rh)) _ e₃);
    }

-- a table that a curve can go by, in the place of what was lent
pub lending : {s : Setting} {n : ℕ} {base residual : List ℤ} {table : List ℕ} → Passed s n base residual table → (k : Curve) (tones : List ℕ) → There k s.rh tones
    → Lending (by_curve k s) n base residual tones
lending h k tones there =
    let r = h.ranged in
    record {
      ranged = record { rb_small = r.rb_small; rh_small = r.rh_small; rr_small = r.rr_small; components_right = r.components_right; pixels_few = r.pixels_few };
      ready = record { rb_small = r.rb_small; rh_small = r.rh_small; rr_small = r.rr_small; there = there };
      base_long = h.base_long;
      residual_long = h.residual_long;
    }
