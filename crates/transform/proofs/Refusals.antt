-- The verdicts of the call, one law for each, and what the tests that were passed say to the code. Assumes nothing.
use mathlib.Core.Path.{◌≡◌}
use mathlib.Core.Bool.{true}
use mathlib.Core.List.{List, [], ◌∷◌}
use Prim.Native.Nat.{ℕ, ◌*◌, ◌<◌, ◌≤◌}
use borrow.Author.Tests.{lt-leb, le-leb, eq-eqb, ne_eqb}
use lib.Dec.{leb, eqb}
use lib.IntN.{ℤ}
use lib.ListN.{length}
use Rattle.laws.specs.Index.{every}
use Rattle.std.specs.Prelude.{Some, None}
use Rattle.answers.specs.Verdict.{Verdict, refused, refusal, given}
use Rattle.levels.specs.Level.{first_outside}
use Rattle.levels.specs.declared.Part.TheVariants.{Whole}
use Rattle.levels.proofs.Ranges.{all_small}
use Rattle.transform_rules.specs.Picture.{picture, InRange}
use Rattle.transform_rules.specs.Call.{first_bad_quantiser, inverse_transform}
use Rattle.transform_rules.proofs.Lengths.{picture_length, quantiser_small}

module _ (refinement blocks : ℕ) (values : List ℤ) (quantisers : List ℕ) (room : ℕ) where
  abbrev verdict : Verdict ℤ
  verdict = inverse_transform refinement blocks values quantisers room

  pub refinement_over : 4 < refinement → verdict ≡ refused (refusal 20 0)
  unfolding inverse_transform every
  refinement_over h = rw (lt-leb refinement 4 h)

  module _ (level : refinement ≤ 4) where
    pub blocks_over : 1024 < blocks → verdict ≡ refused (refusal 20 0)
    unfolding inverse_transform every
    blocks_over h = rw (le-leb refinement 4 level, lt-leb blocks 1024 h)

    module _ (few : blocks ≤ 1024) where
      settings_met : every (leb refinement 4 ∷ leb blocks 1024 ∷ []) ≡ true
      unfolding every
      settings_met = rw (le-leb refinement 4 level, le-leb blocks 1024 few)

      pub values_miscounted : (length values ≡ blocks * 64 → ⊥) → verdict ≡ refused (refusal 21 0)
      unfolding inverse_transform every
      values_miscounted h = rw (settings_met, ne_eqb (length values) (blocks * 64) h)

      module _ (counted : length values ≡ blocks * 64) where
        pub quantisers_miscounted : (length quantisers ≡ 64 → ⊥) → verdict ≡ refused (refusal 21 0)
        unfolding inverse_transform every
        quantisers_miscounted h = rw (settings_met, eq-eqb (length values) (blocks * 64) counted, ne_eqb (length quantisers) 64 h)

        module _ (tabled : length quantisers ≡ 64) where
          counts_met : every (eqb (length values) (blocks * 64) ∷ eqb (length quantisers) 64 ∷ []) ≡ true
          unfolding every
          counts_met = rw (eq-eqb (length values) (blocks * 64) counted, eq-eqb (length quantisers) 64 tabled)

          pub quantiser_bad : {i : ℕ} → first_bad_quantiser quantisers ≡ Some i → verdict ≡ refused (refusal 22 i)
          unfolding inverse_transform
          quantiser_bad h = rw (settings_met, counts_met, h)

          module _ (sound : first_bad_quantiser quantisers ≡ None) where
            pub value_outside : {i : ℕ} → first_outside Whole refinement values ≡ Some i → verdict ≡ refused (refusal 11 i)
            unfolding inverse_transform
            value_outside h = rw (settings_met, counts_met, sound, h)

            module _ (inside : first_outside Whole refinement values ≡ None) where
              pub too_short : room < blocks * 64 → verdict ≡ refused (refusal 9 (blocks * 64))
              unfolding inverse_transform
              too_short h = rw (settings_met, counts_met, sound, inside, picture_length refinement blocks values quantisers, lt-leb (blocks * 64) room h)

              pub all_given : blocks * 64 ≤ room → verdict ≡ given (picture refinement blocks values quantisers)
              unfolding inverse_transform
              all_given h = rw (settings_met, counts_met, sound, inside, picture_length refinement blocks values quantisers, le-leb (blocks * 64) room h)

-- what the code then asks
module _ (values : List ℤ) (quantisers : List ℕ) where
  pub in_range : (refinement : ℕ) → refinement ≤ 4 → length quantisers ≡ 64 → first_bad_quantiser quantisers ≡ None
      → first_outside Whole refinement values ≡ None → InRange values quantisers
  in_range refinement level tabled sound inside =
      record { tabled = tabled; valued = all_small Whole refinement values level inside; quantised = quantiser_small quantisers sound }
