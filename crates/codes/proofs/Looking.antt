-- One turn of the loop that looks a code up: what is left to read gives what the whole gives. Assumes nothing.
use mathlib.Core.Path.{◌≡◌, sym, ap, ◌∙◌}
use mathlib.Core.List.{List, ◌∷◌}
use mathlib.Core.Bool.{Bool}
use Prim.Native.Nat.{ℕ, ◌+◌, ◌-◌, ◌*◌, ◌^◌, ◌≤◌, ◌<◌}
use native.Mathlib.Nat.{pow-suc}
use native.Mathlib.Numerals.{add-one}
use native.Mathlib.Omega.{arith}
use lib.ListN.{length, get_or, drop, drop_of_length-le}
use lib.Seq.{drop-cons, drop-drop, get_or-drop}
use Rattle.bit_rules.specs.Digits.{bin}
use Rattle.bit_rules.specs.Source.{Source, Stop, got, stopped, stop, take_bit}
use Rattle.bit_rules.specs.Table.{Table, code_count}
use Rattle.bit_rules.specs.Read.{take_code}
use Rattle.bit_rules.specs.Lookup.{largest_of, limit_of, lengths_from, decode_from, decode}
use Rattle.codes.specs.Code.{numbers_of, Prepared}
use Rattle.bit_rules.proofs.Tables.{good, total_on}
use Rattle.bit_rules.proofs.Digits.{bin_small}
use Rattle.bit_rules.proofs.Lookups.{below_limit, from_limit, limit_most, limit_least, answers_are_the_same}

-- the codes of the next length begin at `first`, their values at `position`
pub record Here (T : Table) (numbers : List ℕ) (s₀ s : Source) (code l : ℕ) : Type 0 where
  pub first : ℕ
  pub position : ℕ
  pub within : l ≤ 16
  pub small : code < 2 ^ l
  pub reached : first ≤ 2 * code
  pub places : position + code_count (drop l T.counts) ≡ length T.values
  pub kept : drop (3 * l) numbers ≡ numbers_of (lengths_from first position (drop l T.counts))
  pub same : decode_from (lengths_from first position (drop l T.counts)) T.values code s ≡ take_code T s₀

module _ {T : Table} {numbers : List ℕ} (ready : Prepared T numbers) where
  pub here_first : (s : Source) → Here T numbers s s 0 0
  unfolding decode
  here_first s = record {
    first = 0;
    position = 0;
    within = omega arith;
    small = omega arith;
    reached = omega arith;
    places = omega (arith, (good T ready.good).all);
    kept = ready.made;
    same = answers_are_the_same.same T s;
  }

  module _ {s₀ s : Source} {code l : ℕ} (h : Here T numbers s₀ s code l) where
    -- sixteen bits and no code
    pub here_none : 16 ≤ l → stopped (stop 14 s.last) ≡ take_code T s₀
    unfolding decode_from lengths_from
    here_none k = rw (drop_of_length-le T.counts {i = l} (omega (arith, (good T ready.good).sixteen))) at h.same

    module _ (k : l < 16) where
      abbrev count : ℕ
      count = get_or T.counts l 0

      inside : l < length T.counts
      inside = omega (arith, (good T ready.good).sixteen)

      next : drop l T.counts ≡ count ∷ drop (l + 1) T.counts
      next = rw (add-one l) (drop-cons T.counts l 0 inside)

      -- the numbers of this length, and of those behind it
      row : drop (3 * l) numbers ≡ h.first ∷ limit_of (largest_of h.first count) ∷ h.position ∷ numbers_of (lengths_from (2 * (h.first + count)) (h.position + count) (drop (l + 1) T.counts))
      unfolding numbers_of lengths_from
      row = rw next at h.kept

      pub smallest_kept : get_or numbers (3 * l) 0 ≡ h.first
      smallest_kept = let z : 3 * l + 0 ≡ 3 * l = omega arith in rw (← z) (sym (get_or-drop (3 * l) numbers 0 0) ∙ ap (λ (x : List ℕ). get_or x 0 0) row)

      pub limit_kept : get_or numbers (3 * l + 1) 0 ≡ limit_of (largest_of h.first count)
      limit_kept = sym (get_or-drop (3 * l) numbers 1 0) ∙ ap (λ (x : List ℕ). get_or x 1 0) row

      pub position_kept : get_or numbers (3 * l + 2) 0 ≡ h.position
      position_kept = sym (get_or-drop (3 * l) numbers 2 0) ∙ ap (λ (x : List ℕ). get_or x 2 0) row

      pub here_stopped : {x : Stop} → stopped x ≡ take_bit s → stopped x ≡ take_code T s₀
      unfolding decode_from lengths_from
      here_stopped e = rw (next, ← e) at h.same

      module _ {b : Bool} {t : Source} (e : got b t ≡ take_bit s) where
        abbrev more : ℕ
        more = 2 * code + bin b

        module _ {limit : ℕ} (x : limit ≡ get_or numbers (3 * l + 1) 0) where
          limited : limit ≡ limit_of (largest_of h.first count)
          limited = x ∙ limit_kept

          module _ {smallest position : ℕ} (m : more < limit) (y : smallest ≡ get_or numbers (3 * l) 0) (z : position ≡ get_or numbers (3 * l + 2) 0) where
            under : more < limit_of (largest_of h.first count)
            under = rw limited at m

            pub here_room : (smallest ≤ position + more) × (position + more - smallest < length T.values)
            here_room = rw (y ∙ smallest_kept, z ∙ position_kept)
                (omega (arith, h.reached), omega (arith, h.reached, under, limit_most h.first count, h.places, total_on T.counts l inside))

            pub here_found : got (get_or T.values (position + more - smallest) 0) t ≡ take_code T s₀
            unfolding decode_from lengths_from
            here_found = rw (y ∙ smallest_kept, z ∙ position_kept) (rw (next, ← e, below_limit more (largest_of h.first count) under) at h.same)

          module _ (m : limit ≤ more) where
            over : limit_of (largest_of h.first count) ≤ more
            over = rw limited at m

            pub here_on : Here T numbers s₀ t more (l + 1)
            unfolding decode_from lengths_from
            here_on = record {
              first = 2 * (h.first + count);
              position = h.position + count;
              within = omega arith;
              small = omega (arith, h.small, bin_small b, powers);
              reached = omega (arith, limit_least h.first count more (omega (arith, h.reached)) over);
              places = omega (arith, h.places, total_on T.counts l inside);
              kept = rw three (sym (drop-drop 3 (3 * l) numbers) ∙ ap (drop 3) row);
              same = rw (next, ← e, from_limit more (largest_of h.first count) over) at h.same;
            }
              where
                three : 3 * (l + 1) ≡ 3 * l + 3
                three = omega arith

                powers : 2 ^ (l + 1) ≡ 2 ^ l * 2
                powers = rw (add-one l) (pow-suc 2 l)
