-- The verdicts of the call, one law for each. Assumes nothing.
use mathlib.Core.Path.{◌≡◌}
use mathlib.Core.List.{List}
use Prim.Native.Nat.{ℕ, ◌<◌, ◌≤◌}
use borrow.Author.Tests.{lt-leb, le-leb, eq-eqb, ne_eqb}
use lib.ListN.{length}
use Rattle.std.specs.Prelude.{Some, None}
use Rattle.answers.specs.Verdict.{Verdict, refused, refusal, given}
use Rattle.transform_rules.specs.Call.{first_bad_quantiser}
use Rattle.transform_rules.proofs.Lengths.{quantiser_small}
use Rattle.preview_rules.specs.Owed.{owed_block}
use Rattle.preview_rules.specs.Call.{preview_owes}
use Rattle.preview_rules.proofs.Lengths.{block_long}
use Rattle.previews.specs.Code.{Quantised}

module _ (left : ℕ) (quantisers : List ℕ) (room : ℕ) where
  abbrev verdict : Verdict ℕ
  verdict = preview_owes left quantisers room

  pub left_over : 4 < left → verdict ≡ refused (refusal 20 0)
  unfolding preview_owes
  left_over h = rw (lt-leb left 4 h)

  module _ (few : left ≤ 4) where
    pub miscounted : (length quantisers ≡ 64 → ⊥) → verdict ≡ refused (refusal 21 0)
    unfolding preview_owes
    miscounted h = rw (le-leb left 4 few, ne_eqb (length quantisers) 64 h)

    module _ (tabled : length quantisers ≡ 64) where
      pub quantiser_bad : {i : ℕ} → first_bad_quantiser quantisers ≡ Some i → verdict ≡ refused (refusal 22 i)
      unfolding preview_owes
      quantiser_bad h = rw (le-leb left 4 few, eq-eqb (length quantisers) 64 tabled, h)

      module _ (sound : first_bad_quantiser quantisers ≡ None) where
        pub too_short : room < 64 → verdict ≡ refused (refusal 9 64)
        unfolding preview_owes
        too_short h = rw (le-leb left 4 few, eq-eqb (length quantisers) 64 tabled, sound, block_long left quantisers, lt-leb 64 room h)

        pub all_given : 64 ≤ room → verdict ≡ given (owed_block left quantisers)
        unfolding preview_owes
        all_given h = rw (le-leb left 4 few, eq-eqb (length quantisers) 64 tabled, sound, block_long left quantisers, le-leb 64 room h)

        -- what the code then asks
        pub quantised : Quantised quantisers
        quantised = record { tabled = tabled; small = quantiser_small quantisers sound }
