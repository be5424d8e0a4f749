-- Of any blocks within the ranges, the results of a preview are near. Assumes nothing.
use mathlib.Core.Path.{◌≡◌, refl, sym, ◌∙◌}
use mathlib.Core.Bool.{true}
use mathlib.Core.Logic.{⊎_elim}
use mathlib.Core.List.{List, []}
use Prim.Native.Nat.{ℕ, ◌+◌, ◌-◌, ◌*◌, ◌≤◌, ◌<◌}
use native.Mathlib.Omega.{arith}
use borrow.Author.Tests.{eq-eqb}
use lib.IntN.{ℤ, pos}
use lib.ListN.{length}
use Rattle.laws.specs.Index.{every}
use Rattle.laws.specs.First.{first_fail}
use Rattle.laws.proofs.Lists.{join_length}
use Rattle.laws.proofs.Spread.{get_or_join}
use Rattle.transform_rules.proofs.Lengths.{picture_length}
use Rattle.preview_rules.specs.Owed.{owed}
use Rattle.merge_rules.specs.Curves.{entries}
use Rattle.merge_rules.specs.declared.Setting.{Setting}
use Rattle.merge_rules.specs.declared.Curve.TheVariants.{Straight}
use Rattle.merge_rules.specs.declared.Matrix.TheVariants.{None}
use Rattle.merge_rules.specs.Settings.{in_ranges, plain, srgb_allowed, residual_count, samples, lengths_right}
use Rattle.merge_rules.specs.Picture.{merged_picture}
use Rattle.merge_laws.proofs.Order.{picture_long}
use Rattle.demands.specs.Two.{Merged}
use Rattle.demands.specs.Three.{Both, level_of}
use Rattle.demands.specs.Preview.{whole, with_planes, Sound, MergedBoth, Owes, base_at, owed_at, ResultsAreNear}
use Rattle.demands.proofs.Preview.{samples_owe, both_given}
use Rattle.demands.proofs.PreviewResults.{counted, base_owes}
use Rattle.demands.proofs.PreviewLaws.{few_planes, results_are_given, one_of_three}

module _ (s : Setting) (j n : ℕ) (values : ℕ → Both ℤ) (quantisers : ℕ → List ℕ) (residual : List ℤ) (line : s.curve ≡ Straight) (unmixed : s.matrix ≡ None) (ranges : in_ranges s (n * 64) ≡ true)
    (one : plain s ≡ true) (rest : length residual ≡ residual_count s.residual (samples s (n * 64))) (below : j ≤ s.rh) (sound : (c : ℕ) → c < s.components → Sound s.rh n (values c) (quantisers c)) where
  abbrev full : List ℤ
  full = base_at s.components s.rh n values quantisers

  abbrev preview : List ℤ
  preview = base_at s.components j n (λ i. level_of s.rh (values i) j) quantisers

  full_long : length full ≡ samples s (n * 64)
  full_long = join_length (n * 64) s.components _ (λ c. picture_length s.rh n (whole n (values c)) (quantisers c))

  preview_long : length preview ≡ samples s (n * 64)
  preview_long = join_length (n * 64) s.components _ (λ c. picture_length j n (whole n (level_of s.rh (values c) j)) (quantisers c))

  full_merged : Merged s (n * 64) full residual [] (samples s (n * 64)) (merged_picture s (n * 64) full residual [])
  unfolding srgb_allowed lengths_right entries every first_fail
  full_merged = record {
    ranges = ranges;
    one = one;
    srgb = rw line;
    lengths = rw (eq-eqb _ _ full_long, eq-eqb _ _ rest, line);
    entries = refl;
    results = refl;
    fits = omega (arith, picture_long s (n * 64) full residual []);
  }

  both_merged : MergedBoth s j s.rr (n * 64) full preview residual residual (merged_picture s (n * 64) full residual []) (merged_picture (with_planes j s.rr s) (n * 64) preview residual [])
  both_merged = record {
    straight = line;
    unmixed = unmixed;
    fewer = below;
    fewer_too = omega arith;
    room = samples s (n * 64);
    full = full_merged;
    preview_room = samples s (n * 64);
    preview = results_are_given s j s.rr (n * 64) full preview residual residual _ _ line below (omega arith) full_merged (preview_long ∙ sym full_long) refl;
  }

  few_components : s.components ≤ 3
  few_components = ⊎_elim (λ (e : s.components ≡ 1). omega arith) (λ (e : s.components ≡ 3). omega arith) (counted s (n * 64) ranges)

  module _ (block y x : ℕ) (hb : block < n) (hy : y < 8) (hx : x < 8) where
    abbrev p : ℕ
    p = block * 64 + (y * 8 + x)

    there : p < n * 64
    there = omega arith

    samples_owed : Owes s (s.rh - j) (n * 64) full preview p (owed_at (s.rh - j) quantisers y x)
    samples_owed c h =
        rw (
          get_or_join (pos 0) (n * 64) s.components _ (λ i. picture_length s.rh n (whole n (values i)) (quantisers i)) c p h there,
          get_or_join (pos 0) (n * 64) s.components _ (λ i. picture_length j n (whole n (level_of s.rh (values i) j)) (quantisers i)) c p h there,
          one_of_three (λ i. owed (s.rh - j) (quantisers i) y x) c (omega (arith, few_components)),
        )
        (samples_owe s.rh j n (values c) (quantisers c) _ _ (both_given s.rh j n (values c) (quantisers c) (few_planes s (n * 64) ranges) below (sound c h)) block y x hb hy hx)

pub results_are_near : ResultsAreNear
results_are_near s j n values quantisers residual line unmixed ranges one rest below sound block y x c hb hy hx hc =
    base_owes s j (n * 64) _ _ residual _ _ (both_merged s j n values quantisers residual line unmixed ranges one rest below sound) (block * 64 + (y * 8 + x))
    (there s j n values quantisers residual line unmixed ranges one rest below sound block y x hb hy hx) _
    (samples_owed s j n values quantisers residual line unmixed ranges one rest below sound block y x hb hy hx) c hc
