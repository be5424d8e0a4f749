-- Each preview of a picture that is merged is merged too; what own quantisers owe. Assumes nothing.
use mathlib.Core.Path.{◌≡◌, refl, ap, ◌∙◌}
use mathlib.Core.Bool.{true}
use mathlib.Core.List.{[]}
use Prim.Native.Nat.{ℕ, zero, suc, ◌≤◌, ◌<◌}
use native.Mathlib.Omega.{arith}
use borrow.Author.Tests.{le-leb, leb-true}
use lib.ListN.{length}
use Rattle.laws.specs.Index.{total_to}
use Rattle.laws.specs.Apart.{apart_rounded}
use Rattle.laws.proofs.Lists.{every_first, every_rest}
use Rattle.laws.proofs.Tests.{every_pass}
use Rattle.transform_rules.specs.Cosines.{nine_cosines, half_turn, full_turn, kernel}
use Rattle.transform_rules.specs.Zigzag.{first_row, last_row, places_before, zigzag}
use Rattle.preview_rules.specs.Owed.{weight, owed}
use Rattle.merge_rules.specs.Curves.{entries}
use Rattle.merge_rules.specs.Pixels.{triple, component}
use Rattle.merge_rules.specs.declared.Setting.{Setting}
use Rattle.merge_rules.specs.Settings.{in_ranges, plain, srgb_allowed, lengths_right}
use Rattle.merge_laws.proofs.Order.{picture_long}
use Rattle.demands.specs.Preview.{with_planes, ResultsAreGiven, OwedByOwnQuantisers}

-- ---- what is merged in full is merged with fewer planes

-- Rh and Rr are in range where they are no more than others that are
module _ (s : Setting) (pixels : ℕ) (e : in_ranges s pixels ≡ true) where
  pub few_planes : s.rh ≤ 4
  unfolding in_ranges
  few_planes = leb-true s.rh 4 (every_first _ _ (every_rest _ _ (every_rest _ _ e)))

  fewer_in_range : (rh rr : ℕ) → rh ≤ s.rh → rr ≤ s.rr → in_ranges (with_planes rh rr s) pixels ≡ true
  unfolding in_ranges
  fewer_in_range rh rr h l =
      let behind_one = every_rest _ _ e in
      let behind-rb = every_rest _ _ behind_one in
      let behind-rh = every_rest _ _ behind-rb in
      let few : s.rr ≤ 4 = leb-true s.rr 4 (every_first _ _ behind-rh) in
      let rh-in : rh ≤ 4 = omega (arith, few_planes) in
      let rr-in : rr ≤ 4 = omega arith in
      every_pass _ _ (every_first _ _ e) ∙ every_pass _ _ (every_first _ _ behind_one) ∙ every_pass _ _ (le-leb rh 4 rh-in) ∙ every_pass _ _ (le-leb rr 4 rr-in) ∙ every_rest _ _ behind-rh

pub results_are_given : ResultsAreGiven
unfolding plain srgb_allowed lengths_right entries
results_are_given s rh rr pixels base base' residual residual' room finished line h l full alike alike' = record {
  ranges = fewer_in_range s pixels full.ranges rh rr h l;
  one = full.one;
  srgb = rw line;
  lengths = rw (alike, alike', line) (rw line at full.lengths);
  entries = full.entries;
  results = refl;
  fits = omega (arith, picture_long (with_planes rh rr s) pixels base' residual' [], picture_long s pixels base residual [], ap length full.results, full.fits);
}

-- ---- any blocks

pub owed_by_own_quantisers : OwedByOwnQuantisers
unfolding component owed apart_rounded weight total_to zigzag places_before first_row last_row kernel full_turn half_turn nine_cosines
owed_by_own_quantisers = refl

pub one_of_three : (f : ℕ → ℕ) (c : ℕ) → c < 3 → component c (triple (f 0) (f 1) (f 2)) ≡ f c
unfolding component
one_of_three f zero h = refl
one_of_three f (suc zero) h = refl
one_of_three f (suc (suc zero)) h = refl
one_of_three f (suc (suc (suc c))) h = absurd (omega arith)
