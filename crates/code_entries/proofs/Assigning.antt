-- The code's loop over the lengths finds the code that Annex C assigns. Assumes nothing.
use mathlib.Core.Path.{◌≡◌, refl}
use mathlib.Core.List.{List, ◌∷◌}
use Prim.Native.Nat.{ℕ, ◌+◌, ◌-◌, ◌*◌, ◌^◌, ◌≤◌, ◌<◌}
use native.Mathlib.Omega.{arith}
use native.Mathlib.Numerals.{add-one}
use native.Mathlib.Nat.{pow-suc}
use lib.Pow.{pow_mono}
use lib.ListN.{length, get_or, drop}
use lib.Seq.{drop-cons}
use borrow.Author.Tests.{lt-ltb, le-ltb}
use Rattle.bit_rules.specs.Table.{code_count}
use Rattle.bit_rules.specs.Write.{code_at}
use Rattle.code_entries.specs.Code.{Assigned}
use Rattle.bit_rules.proofs.Tables.{total_on, total_end}

pub record Assigning (counts : List ℕ) (place first k l : ℕ) : Type 0 where
  pub within : l ≤ length counts
  pub small : first + 510 ≤ 510 * 2 ^ l
  pub less : k ≤ place
  pub left : k < code_count (drop l counts)
  pub same : code_at (drop l counts) first (l + 1) k ≡ code_at counts 0 1 place

module _ {counts : List ℕ} {place : ℕ} (sixteen : length counts ≡ 16) where
  pub assign_first : place < code_count counts → Assigning counts place 0 place 0
  assign_first h = record { within = omega arith; small = omega arith; less = omega arith; left = h; same = refl }

  module _ {first k l : ℕ} (a : Assigning counts place first k l) where
    pub assign_small : l < length counts → first ≤ 16711680
    assign_small h = omega (arith, a.small, pow_mono {i = l} {j = 15} (omega arith))

    pub assign_end : length counts ≤ l → ⊥
    assign_end h = omega (arith, a.left, total_end counts l h)

    module _ (h : l < length counts) {n : ℕ} (e : n ≡ get_or counts l 0) (byte : n < 256) where
      next : drop l counts ≡ n ∷ drop (l + 1) counts
      next = rw (add-one l, e) (drop-cons counts l 0 h)

      pub assigned : k < n → Assigned counts place (record { size = l + 1; number = first + k })
      unfolding code_at
      assigned m = record { same = rw (next, lt-ltb k n m) at a.same; some = omega arith; short = omega arith; small = omega (arith, assign_small h) }

      pub assign_turn : n ≤ k → Assigning counts place (2 * (first + n)) (k - n) (l + 1)
      unfolding code_at
      assign_turn m = record {
        within = omega arith;
        small = omega (arith, a.small, powers);
        less = omega (arith, a.less);
        left = omega (arith, a.left, total_on counts l h, e);
        same = rw (add-one (l + 1)) (rw (next, le-ltb k n m) at a.same);
      }
        where
          powers : 2 ^ (l + 1) ≡ 2 ^ l * 2
          powers = rw (add-one l) (pow-suc 2 l)
