-- Grey stays grey: the samples of a block of zeros are the centre of step 1, and a pixel there is one number three times through all steps. Assumes nothing.
use mathlib.Core.Path.{◌≡◌, refl, sym, ap, subst, ◌∙◌}
use mathlib.Core.List.{List, [], ◌∷◌}
use Prim.Native.Nat.{ℕ, zero, suc, ◌+◌, ◌*◌, ◌^◌, ◌<◌}
use native.Mathlib.Omega.{arith}
use lib.IntN.{ℤ, pos, ◌+ℤ◌, ◌*ℤ◌, +ℤ_idl, *ℤ-zero, zero-*ℤ}
use lib.ListN.{get_or, replicate, get_or-replicate}
use lib.Signed.{shr_z}
use Rattle.laws.specs.Index.{sum_to, every}
use Rattle.laws.specs.First.{first_fail, or_here}
use Rattle.laws.proofs.Sums.{sum_ext}
use Rattle.levels.specs.Level.{in_level, is_dc, inside, first_outside}
use Rattle.transform_rules.specs.Cosines.{kernel}
use Rattle.transform_rules.specs.Zigzag.{zigzag}
use Rattle.transform_rules.specs.Picture as blockwise
use Rattle.transform_rules.specs.Call.{is_quantiser, first_bad_quantiser}
use Rattle.transform_rules.proofs.Lengths.{picture_length, zigzag_below}
use Rattle.merge_rules.specs.Near.{clip, top}
use Rattle.merge_rules.specs.Curves.{curved}
use Rattle.merge_rules.specs.declared.Setting.{Setting}
use Rattle.merge_rules.specs.declared.Matrix.TheVariants.{None}
use Rattle.merge_rules.specs.declared.Residual.TheVariants.{Absent}
use Rattle.merge_rules.specs.Pixels as pixels
use Rattle.merge_rules.specs.Pixels.{Pixel, triple, component}
use Rattle.merge_rules.specs.Steps.{step_one, step_two, matrixed, step_three, alone, with_residual, step_five, basis, merged}
use Rattle.merge_rules.specs.Picture.{pixel_at}
use Rattle.merge_rules.proofs.Centre.{grey}
use Rattle.demands.specs.Two.{sample_at, Sampled}
use Rattle.demands.specs.Grey.{Untinted, GreyStaysGrey, GreyShown}
use Rattle.demands.proofs.Values.{samples_are, results_are}

-- ---- a block of zeros

module _ (values : List ℤ) (quantisers : List ℕ) (block : ℕ) (zeros : (i : ℕ) → i < 64 → get_or values (block * 64 + i) (pos 0) ≡ pos 0) (y x : ℕ) where
  no_product : (v u : ℕ) → v < 8 → u < 8
      → kernel x u *ℤ kernel y v *ℤ (get_or values (block * 64 + zigzag v u) (pos 0) *ℤ pos (get_or quantisers (zigzag v u) 0)) ≡ pos 0
  no_product v u hv hu = rw (zeros (zigzag v u) (zigzag_below v u hv hu), zero-*ℤ (pos (get_or quantisers (zigzag v u) 0))) (*ℤ-zero (kernel x u *ℤ kernel y v))

  flat : (refinement : ℕ) → sample_at refinement values quantisers block y x ≡ pos (2 ^ (7 + refinement))
  unfolding sum_to
  flat refinement =
      ap (λ (t : ℤ). shr_z (t +ℤ pos (2 ^ 27)) (2 ^ 28) +ℤ pos (2 ^ (7 + refinement)))
      (sum_ext 8 _ (λ v. pos 0) (λ v hv. sum_ext 8 _ (λ u. pos 0) (λ u hu. no_product v u hv hu)))
      ∙ +ℤ_idl (pos (2 ^ (7 + refinement)))

difference_is : (refinement : ℕ) (c : ℤ) → Untinted refinement c → c ≡ pos (2 ^ (7 + refinement))
difference_is refinement c u =
    sym u.stands
    ∙ samples_are refinement u.blocks u.values u.quantisers u.room u.samples u.handed u.block u.y u.x u.there u.row u.column
    ∙ flat u.values u.quantisers u.block u.zeros u.y u.x refinement

-- ---- a pixel that is one number three times

-- what steps 2 and 5 make of a number, without a matrix and a residual
abbrev finished : Setting → List ℕ → ℕ → ℕ
finished s table n = alone s.rb (curved s.curve s.rb s.rh table n)

same_steps : (s : Setting) (table : List ℕ) (p r : Pixel ℤ) (n : ℕ) → s.matrix ≡ None → s.residual ≡ Absent → step_one s p ≡ triple n n n
    → merged s table p r ≡ triple (finished s table n) (finished s table n) (finished s table n)
unfolding merged basis step_two step_three step_five matrixed with_residual pixels.each
same_steps s table p r n m a e = rw (e, m, a)

same_component : (k n : ℕ) → component k (triple n n n) ≡ n
unfolding component
same_component zero n = refl
same_component (suc zero) n = refl
same_component (suc (suc k)) n = refl

three_lent : (s : Setting) (count : ℕ) (base : List ℤ) (p : ℕ) → s.components ≡ 3
    → pixel_at s.components count base p ≡ triple (get_or base p (pos 0)) (get_or base (count + p) (pos 0)) (get_or base (count + count + p) (pos 0))
unfolding pixel_at
three_lent s count base p e = rw e

pub grey_stays_grey : GreyStaysGrey
grey_stays_grey s count base table room ys h three transform none absent p hp cb cr k hk =
    one k (omega arith) ∙ sym (one 0 (omega arith)) ∙ ap (λ i. get_or ys i 0) (omega arith)
  where
    first_step : step_one s (pixel_at s.components count base p) ≡ triple (clip (get_or base p (pos 0)) (top s.rh)) (clip (get_or base p (pos 0)) (top s.rh)) (clip (get_or base p (pos 0)) (top s.rh))
    first_step =
        ap (step_one s) (three_lent s count base p three ∙ rw (difference_is s.rh _ cb, difference_is s.rh _ cr))
        ∙ grey s (get_or base p (pos 0)) transform

    one : (j : ℕ) → j < 3 → get_or ys (j * count + p) 0 ≡ finished s table (clip (get_or base p (pos 0)) (top s.rh))
    one j hj =
        results_are s count base [] table room ys h j p (subst (λ n. j < n) (sym three) hj) hp
        ∙ ap (component j) (same_steps s table _ _ _ none absent first_step)
        ∙ same_component j _

-- ---- the law used

-- one block of zeros at Rh 4, each quantiser 1
zero_block : Sampled 4 1 (replicate 64 (pos 0)) (replicate 64 1) 64 (blockwise.picture 4 1 (replicate 64 (pos 0)) (replicate 64 1))
unfolding every first_bad_quantiser is_quantiser first_fail or_here in_level is_dc inside first_outside
zero_block =
    record {
      counts = refl;
      lengths = refl;
      quantised = refl;
      ranged = refl;
      samples = refl;
      fits = omega (arith, picture_length 4 1 (replicate 64 (pos 0)) (replicate 64 1));
    }

no_tint : Untinted 4 (pos 2048)
no_tint =
    record {
      blocks = 1;
      values = replicate 64 (pos 0);
      quantisers = replicate 64 1;
      room = 64;
      samples = blockwise.picture 4 1 (replicate 64 (pos 0)) (replicate 64 1);
      handed = zero_block;
      block = 0;
      there = omega arith;
      zeros = all_zero;
      y = 0;
      row = omega arith;
      x = 0;
      column = omega arith;
      stands = samples_are 4 1 _ _ 64 _ zero_block 0 0 0 (omega arith) (omega arith) (omega arith) ∙ flat (replicate 64 (pos 0)) (replicate 64 1) 0 all_zero 0 0 4;
    }
  where
    all_zero : (i : ℕ) → i < 64 → get_or (replicate 64 (pos 0)) (0 * 64 + i) (pos 0) ≡ pos 0
    all_zero i h = get_or-replicate 64 (0 * 64 + i) (pos 0) (pos 0) (omega arith)

pub grey_shown : GreyShown
grey_shown y ys h = (kept 1 (omega arith), kept 2 (omega arith))
  where
    kept : (k : ℕ) → k < 3 → get_or ys (k * 1 + 0) 0 ≡ get_or ys 0 0
    kept k less = grey_stays_grey _ 1 (y ∷ pos 2048 ∷ pos 2048 ∷ []) [] 3 ys h refl refl refl refl 0 (omega arith) no_tint no_tint k (omega arith)
