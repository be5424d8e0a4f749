-- The order of refusals: what the tests of a merge come to, whatever result of the right length stands behind them. Assumes nothing.
use borrow.Author.Tests.{le-leb, lt-leb}
use mathlib.Core.Path.{◌≡◌}
use mathlib.Core.Bool.{true, false}
use mathlib.Core.List.{List}
use Prim.Native.Nat.{ℕ, ◌<◌, ◌≤◌}
use lib.IntN.{ℤ}
use lib.ListN.{length}
use Rattle.laws.specs.First.{first_fail}
use Rattle.std.specs.Prelude.{Some, None}
use Rattle.laws.proofs.Lists.{length_tab, join_length}
use Rattle.answers.specs.Verdict.{given, refused, refusal}
use Rattle.merge_rules.specs.Near.{top}
use Rattle.merge_rules.specs.declared.Setting.{Setting}
use Rattle.merge_rules.specs.Settings.{in_ranges, plain, srgb_allowed, lengths_right, entry_right, samples}
use Rattle.merge_rules.specs.Picture.{planes, merged_picture, merge_tests}

module _ (s : Setting) (n : ℕ) (base residual : List ℤ) (table : List ℕ) where
  pub picture_long : length (merged_picture s n base residual table) ≡ samples s n
  unfolding merged_picture planes
  picture_long = join_length n s.components _ (λ k. length_tab n _)

  module _ (room : ℕ) (result : List ℕ) where
    pub no_range : in_ranges s n ≡ false → merge_tests s n base residual table room result ≡ refused (refusal 20 0)
    unfolding merge_tests
    no_range e = rw e

    module _ (h₁ : in_ranges s n ≡ true) where
      pub not_plain : plain s ≡ false → merge_tests s n base residual table room result ≡ refused (refusal 20 0)
      unfolding merge_tests
      not_plain e = rw (h₁, e)

      module _ (h₂ : plain s ≡ true) where
        pub no_srgb : srgb_allowed s ≡ false → merge_tests s n base residual table room result ≡ refused (refusal 20 0)
        unfolding merge_tests
        no_srgb e = rw (h₁, h₂, e)

        module _ (h₃ : srgb_allowed s ≡ true) where
          pub no_lengths : lengths_right s n base residual table ≡ false → merge_tests s n base residual table room result ≡ refused (refusal 21 0)
          unfolding merge_tests
          no_lengths e = rw (h₁, h₂, h₃, e)

          module _ (h₄ : lengths_right s n base residual table ≡ true) where
            pub too_large : (i : ℕ) → first_fail (length table) (entry_right (top s.rb) table) ≡ Some i → merge_tests s n base residual table room result ≡ refused (refusal 11 i)
            unfolding merge_tests
            too_large i e = rw (h₁, h₂, h₃, h₄, e)

            module _ (h₅ : first_fail (length table) (entry_right (top s.rb) table) ≡ None) (long : length result ≡ samples s n) where
              pub no_room : room < samples s n → merge_tests s n base residual table room result ≡ refused (refusal 9 (samples s n))
              unfolding merge_tests
              no_room h = rw (h₁, h₂, h₃, h₄, h₅, long, lt-leb (samples s n) room h)

              pub all_right : samples s n ≤ room → merge_tests s n base residual table room result ≡ given result
              unfolding merge_tests
              all_right h = rw (h₁, h₂, h₃, h₄, h₅, long, le-leb (samples s n) room h)
