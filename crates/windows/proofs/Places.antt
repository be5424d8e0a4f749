-- Laws of a window's places: what a turn of the pass does, and what the places say of the numbers. Assumes nothing.
use Prim.Native.Nat.{ℕ, zero, suc, ◌+◌, ◌-◌, ◌≤◌, ◌<◌}
use mathlib.Core.Path.{◌≡◌, refl, ap, sym, subst, ◌∙◌}
use mathlib.Core.Logic.{◌⊎◌, inl, inr, ⊎_elim}
use mathlib.Core.List.{List, [], ◌∷◌, ◌++◌, append-nil, append_assoc}
use mathlib.Core.Bool.{true, false}
use native.Mathlib.Omega.{arith}
use lib.ListN.{length, get_or, replicate, length-set}
use lib.Seq.{get_or-set_same, get_or-set_other}
use lib.Dec.{eqb, ltb, leb}
use borrow.Author.Tests.{eqb-true, eqb-false, lt-leb, leb-false, ltb-true, ltb-false}
use Rattle.std.specs.Prelude.{Option, Some, None}
use Rattle.laws.specs.First.{first_fail}
use Rattle.laws.proofs.First.{first_none, first_at}
use Rattle.laws.proofs.Choices.{either}
use Rattle.box_rules.specs.declared.Head.{Head}
use Rattle.box_rules.specs.Packets.{Packet, packet, mine_from}
use Rattle.packets.specs.Code.{Met}
use Rattle.box_rules.specs.Numbers.{numbers, numbers_from, count, missing_from}
use Rattle.numbers.proofs.Meeting.{numbers_met}
use Rattle.box_rules.proofs.Counts.{numbers_append, count_append, count_none, count_here, count_other}
use Rattle.box_laws.proofs.Smallest.{missing_is, missing_more_than}
use Rattle.windows.specs.Code.{Stands, Located, marked}

-- ---- a store

pub marked_length : (passed number at : ℕ) (places : List ℕ) → length (marked passed number at places) ≡ length places
unfolding marked
marked_length passed number at places = ⊎_elim
    (λ t. rw t)
    (λ t. rw t (length-set places (number - (passed + 1)) at))
    (either (leb number passed))

marked_here : (passed number at i : ℕ) (places : List ℕ) → number ≡ passed + 1 + i → i < length places → get_or (marked passed number at places) i 0 ≡ at
unfolding marked
marked_here passed number at i places e l =
    let z : number - (passed + 1) ≡ i = omega arith in
    rw (lt-leb number passed (omega arith), z) (get_or-set_same places i at 0 l)

marked_other : (passed number at i : ℕ) (places : List ℕ) → (number ≡ passed + 1 + i → ⊥) → get_or (marked passed number at places) i 0 ≡ get_or places i 0
unfolding marked
marked_other passed number at i places n = ⊎_elim
    (λ t. rw t)
    (λ t. rw t (get_or-set_other places (number - (passed + 1)) i at 0 (λ e. n (omega (arith, leb-false number passed t)))))
    (either (leb number passed))

-- ---- a pass, behind the packets `done`

pub record Locating (file : List ℕ) (kind instance passed : ℕ) (places places₀ : List ℕ) (at : ℕ) : Type 0 where
  done : List Packet
  split : mine_from file kind instance 2 ≡ done ++ mine_from file kind instance at
  pub late : 2 ≤ at
  pub size : length places ≡ length places₀
  gone : (i : ℕ) → i < length places → get_or places i 0 ≡ 0 → count (passed + 1 + i) (numbers done) ≡ 0
  there : (i : ℕ) → i < length places → 0 < get_or places i 0 → Stands file kind instance (passed + 1 + i) (get_or places i 0)

get_or_zeros : (n i : ℕ) → ◌≡◌ {A = ℕ} (get_or (replicate n 0) i 0) 0
get_or_zeros zero i = refl
get_or_zeros (suc n) zero = refl
get_or_zeros (suc n) (suc i) = get_or_zeros n i

pub locate_start : (file : List ℕ) (kind instance passed : ℕ) {places : List ℕ} (n : ℕ) → places ≡ replicate n 0 → Locating file kind instance passed places places 2
unfolding numbers count
locate_start file kind instance passed {places} n e = record {
  done = [];
  split = refl;
  late = omega arith;
  size = refl;
  gone = λ i l z. refl;
  there = λ i l h. absurd (omega (arith, ap (λ (x : List ℕ). get_or x i 0) e, get_or_zeros n i));
}

pub locate_turn : {file : List ℕ} {kind instance passed : ℕ} {places places₀ after : List ℕ} {at : ℕ} → Locating file kind instance passed places places₀ at
    → {head : Head} {start len next : ℕ} → Met file kind instance at head start len next → after ≡ marked passed head.number at places
    → Locating file kind instance passed after places₀ next
unfolding numbers
locate_turn {file} {kind} {instance} {passed} {places} {places₀} {after} {at} g {head} {start} {len} {next} m e =
    let p : Packet = packet file head start len in
    let z : length after ≡ length places = ap length e ∙ marked_length passed head.number at places in
    record {
      done = g.done ++ (p ∷ []);
      split = g.split ∙ ap (λ (x : List Packet). g.done ++ x) m.list ∙ sym (append_assoc g.done (p ∷ []) (mine_from file kind instance next));
      late = omega (arith, g.late);
      size = z ∙ g.size;
      gone = λ i l h. gone' i (subst (λ (n : ℕ). i < n) z l) (either (eqb head.number (passed + 1 + i))) (sym (ap (λ (x : List ℕ). get_or x i 0) e) ∙ h);
      there = λ i l h. there' i (subst (λ (n : ℕ). i < n) z l) (either (eqb head.number (passed + 1 + i))) h;
    }
  where
    gone' : (i : ℕ) → i < length places → (eqb head.number (passed + 1 + i) ≡ true) ⊎ (eqb head.number (passed + 1 + i) ≡ false)
        → get_or (marked passed head.number at places) i 0 ≡ 0 → count (passed + 1 + i) (numbers (g.done ++ (packet file head start len ∷ []))) ≡ 0
    gone' i l (inl t) h = absurd (omega (arith, g.late, marked_here passed head.number at i places (eqb-true _ _ t) l))
    gone' i l (inr t) h =
        let n : (head.number ≡ passed + 1 + i → ⊥) = eqb-false head.number (passed + 1 + i) t in
        ap (count (passed + 1 + i)) (numbers_append g.done (packet file head start len ∷ []))
        ∙ count_append (passed + 1 + i) (numbers g.done) (head.number ∷ [])
        ∙ omega (arith, g.gone i l (sym (marked_other passed head.number at i places n) ∙ h), count_other head.number (passed + 1 + i) [] n, count_none (passed + 1 + i))

    there' : (i : ℕ) → i < length places → (eqb head.number (passed + 1 + i) ≡ true) ⊎ (eqb head.number (passed + 1 + i) ≡ false)
        → 0 < get_or after i 0 → Stands file kind instance (passed + 1 + i) (get_or after i 0)
    there' i l (inl t) h =
        let n : head.number ≡ passed + 1 + i = eqb-true head.number (passed + 1 + i) t in
        let v : get_or after i 0 ≡ at = ap (λ (x : List ℕ). get_or x i 0) e ∙ marked_here passed head.number at i places n l in
        rw v (record { before = g.done; split = g.split; rest = numbers_from file kind instance next; first = numbers_met m ∙ ap (λ (x : ℕ). x ∷ numbers_from file kind instance next) n })
    there' i l (inr t) h =
        let n : (head.number ≡ passed + 1 + i → ⊥) = eqb-false head.number (passed + 1 + i) t in
        let v : get_or after i 0 ≡ get_or places i 0 = ap (λ (x : List ℕ). get_or x i 0) e ∙ marked_other passed head.number at i places n in
        rw v (g.there i l (omega arith))

pub locate_end : {file : List ℕ} {kind instance passed : ℕ} {places places₀ : List ℕ} {at : ℕ} → Locating file kind instance passed places places₀ at
    → mine_from file kind instance at ≡ [] → Located file kind instance passed places
unfolding numbers_from
locate_end {file} {kind} {instance} {passed} {places} {places₀} {at} g e = record {
  each = λ i l. record {
    gone = λ z. ap (λ (ps : List Packet). count (passed + 1 + i) (numbers ps)) (g.split ∙ ap (λ (x : List Packet). g.done ++ x) e ∙ append-nil g.done) ∙ g.gone i l z;
    there = g.there i l;
  };
}

-- ---- what the places say of the numbers

pub stands_count : {file : List ℕ} {kind instance q place : ℕ} → Stands file kind instance q place → 1 ≤ count q (numbers_from file kind instance 2)
unfolding numbers_from
stands_count {file} {kind} {instance} {q} {place} s =
    omega (
      arith,
      ap (λ (ps : List Packet). count q (numbers ps)) s.split,
      ap (count q) (numbers_append s.before (mine_from file kind instance place)),
      count_append q (numbers s.before) (numbers (mine_from file kind instance place)),
      ap (count q) s.first,
      count_here q q s.rest refl,
    )

module _ {file : List ℕ} {kind instance passed : ℕ} {places : List ℕ} (g : Located file kind instance passed places) (k left : ℕ) (room : k ≤ length places) (few : k ≤ left) where
  there_count : (j : ℕ) → j < k → ltb 0 (get_or places j 0) ≡ true → 1 ≤ count (passed + 1 + j) (numbers_from file kind instance 2)
  there_count j l t = stands_count ((g.each j (omega arith)).there (ltb-true 0 (get_or places j 0) t))

  there_below : (i : ℕ) → i ≤ k → ((j : ℕ) → j < i → ltb 0 (get_or places j 0) ≡ true) → (q : ℕ) → passed + 1 ≤ q → q < passed + 1 + i → 1 ≤ count q (numbers_from file kind instance 2)
  there_below i l h q u v =
      let e : passed + 1 + (q - (passed + 1)) ≡ q = omega arith in
      subst (λ (x : ℕ). 1 ≤ count x (numbers_from file kind instance 2)) e (there_count (q - (passed + 1)) (omega arith) (h (q - (passed + 1)) (omega arith)))

  -- a place of the window is 0: its number is the smallest missing
  pub window_missing : {f : (Option ℕ)} {i : ℕ} → f ≡ first_fail k (λ j. ltb 0 (get_or places j 0)) → f ≡ Some i → missing_from left (passed + 1) (numbers_from file kind instance 2) ≡ Some (passed + 1 + i)
  window_missing {f} {i} e h =
      let s = first_at k (λ j. ltb 0 (get_or places j 0)) (sym e ∙ h) in
      missing_is (numbers_from file kind instance 2) left (passed + 1) (passed + 1 + i) (omega arith) (omega (arith, s.0))
      ((g.each i (omega (arith, s.0))).gone (omega (arith, ltb-false 0 (get_or places i 0) s.1)))
      (there_below i (omega (arith, s.0)) s.2)

  pub window_index : {f : (Option ℕ)} {i : ℕ} → f ≡ first_fail k (λ j. ltb 0 (get_or places j 0)) → f ≡ Some i → i < k
  window_index e h = (first_at k (λ j. ltb 0 (get_or places j 0)) (sym e ∙ h)).0

  -- none of the window's numbers is missing
  pub window_passed : {f : (Option ℕ)} → f ≡ first_fail k (λ j. ltb 0 (get_or places j 0)) → f ≡ None
      → missing_from left (passed + 1) (numbers_from file kind instance 2) ≡ missing_from (left - k) (passed + k + 1) (numbers_from file kind instance 2)
  window_passed e h =
      let z : left ≡ k + (left - k) = omega arith in
      let y : passed + 1 + k ≡ passed + k + 1 = omega arith in
      ap (λ (l : ℕ). missing_from l (passed + 1) (numbers_from file kind instance 2)) z
      ∙ missing_more_than (numbers_from file kind instance 2) k (passed + 1) (left - k) (there_below k (omega arith) (λ j l. first_none k (λ i. ltb 0 (get_or places i 0)) (sym e ∙ h) j l))
      ∙ ap (λ (a : ℕ). missing_from (left - k) a (numbers_from file kind instance 2)) y
