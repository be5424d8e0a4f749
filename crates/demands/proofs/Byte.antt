-- The second place tells which byte was asked for last. Assumes nothing.
use mathlib.Core.Path.{◌≡◌, refl, sym, ap, subst, ◌∙◌}
use mathlib.Core.Logic.{◌⊎◌, inl, inr}
use mathlib.Core.Bool.{Bool, true, false, cond}
use mathlib.Core.List.{List, [], ◌∷◌, ◌++◌, append-nil, append_assoc}
use Rattle.std.specs.Prelude.{Option, Some, None}
use Prim.Native.Nat.{ℕ, zero, suc, ◌+◌, ◌-◌, ◌*◌, ◌≤◌, ◌<◌}
use native.Mathlib.Omega.{arith}
use borrow.Author.Tests.{eqb-true, eqb-false, eq-eqb, ne_eqb}
use lib.Dec.{eqb, leb}
use lib.IntN.{ℤ}
use lib.ListN.{length, get_or, take, drop, take-append-drop}
use lib.Seq.{length-take-le, take-length, take-suc, drop-cons}
use Rattle.laws.specs.Index.{every}
use Rattle.laws.proofs.Choices.{either}
use Rattle.answers.specs.Verdict.{Verdict, given, refused, refusal_at, refusal, need, unless}
use Rattle.answers.specs.declared.Refusal.{Refusal}
use Rattle.answers.proofs.Given.{refused_given, need_given}
use Rattle.levels.specs.Level.{first_outside}
use Rattle.levels.specs.declared.Part.TheVariants.{Dc, Ac}
use Rattle.bit_rules.specs.Source.{start, only_padding, stop}
use Rattle.bit_rules.specs.Table.{Table, good_table}
use Rattle.bit_rules.proofs.Tables.{good}
use Rattle.plane_rules.specs.Plane.{Plane, read, refusing, readable, closed}
use Rattle.plane_rules.specs.Dc.{dc_block, dc_blocks, read_dc}
use Rattle.plane_rules.specs.AcRead.{ac_block, cut, ac_blocks, read_ac}
use Rattle.trips.proofs.Asked.{tidy, Seam, even, marked, unsaid, Alike, Within, First, also}
use Rattle.trips.proofs.AskedPlanes.{Planes, PastPlane, SamePlane, block_law, block_first, dc_block_lem, first_blocks}
use Rattle.demands.specs.Byte.{size, Refuses, WhichByte}

-- ---- planes, over data that are cut and go on otherwise

module _ (bytes : List ℕ) (k : ℕ) (C E : Type 0) (rest' : List ℕ) (h : k ≤ length bytes) (seam : Seam C (take k bytes) (drop k bytes) rest') (ends : E → rest' ≡ []) where
  both_start : Alike bytes k C E (start bytes) (start (take k bytes ++ rest'))
  both_start = record {
    pending = [];
    common = take k bytes;
    rest = drop k bytes;
    rest' = rest';
    seen = 0;
    last = 0;
    here = ap start (sym (take-append-drop k bytes));
    there = refl;
    facts = record {
      upto = omega (arith, length-take-le k bytes h);
      seam = seam;
      ends = ends;
      held = inl refl;
      whole = take-append-drop k bytes;
      behind = λ l. absurd (omega arith);
      before = λ l. absurd (omega arith);
      pair = λ l. absurd (omega arith);
    };
  }

pub record Twice (plane : List ℕ → Plane) : Type 1 where
  pub both : (bytes : List ℕ) (k : ℕ) (C E : Type 0) (rest' : List ℕ) → k ≤ length bytes → Seam C (take k bytes) (drop k bytes) rest' → (E → rest' ≡ [])
      → Planes bytes k C E (plane bytes) (plane (take k bytes ++ rest'))

dc_twice : (values : List ℤ) → Twice (λ bytes. dc_blocks 0 values (start bytes))
unfolding dc_blocks
dc_twice [] = record { both = λ bytes k C E rest' h c e. inl tt }
dc_twice (v ∷ values) = record {
  both = λ bytes k C E rest' h c e.
      first_blocks bytes k C E dc_block (λ u x later. also bytes k C E (dc_block_lem bytes k C E u x later)) 0 tt v values _ _ (dc_block_lem bytes k C E tt v values) (both_start bytes k C E rest' h c e);
}

module _ (T : Table) (counted : 0 < length T.counts) where
  block_of : (bytes : List ℕ) (k : ℕ) (C E : Type 0) (left : ℕ) (b : List ℤ) → 0 < length b → First bytes k C E (ac_block T left None b)
  block_of bytes k C E left [] h = absurd (omega arith)
  block_of bytes k C E left (v ∷ values) h = block_first bytes k C E T left counted v values

  ac_twice : (blocks : ℕ) (values : List ℤ) → length values ≡ 63 * blocks → Twice (λ bytes. ac_blocks T 0 None (cut blocks values) (start bytes))
  unfolding ac_blocks cut
  ac_twice zero values n = record { both = λ bytes k C E rest' h c e. inl tt }
  ac_twice (suc blocks) values n = record {
    both = λ bytes k C E rest' h c e.
        let long : length (take 63 values) ≡ 63 = length-take-le 63 values (omega arith) in
        first_blocks bytes k C E (λ p b later. ac_block T (suc (length later)) p b) (λ p b later. block_law bytes k C E T (suc (length later)) counted p b) 0 None (take 63 values) (cut blocks (drop 63 values)) _ _
        (block_of bytes k C E _ (take 63 values) (omega arith)) (both_start bytes k C E rest' h c e);
  }

-- ---- the tests in front

pub data Front (tests : Verdict ℤ → Verdict ℤ) : Type 0 where
  clear : ((v : Verdict ℤ) → tests v ≡ v) → Front tests
  barred : (r : Refusal) → (r.number < 12) ⊎ (17 < r.number) → ((v : Verdict ℤ) → tests v ≡ refused r) → Front tests

module _ {next : Verdict ℤ → Verdict ℤ} (f : Front next) (n : ℕ) (out : (n < 12) ⊎ (17 < n)) where
  front_need : (ok : Bool) (p : ℕ) → Front (λ v. need ok n p (next v))
  front_need true p = f
  front_need false p = barred (refusal n p) out (λ v. refl)

  front_unless : (found : Option ℕ) → Front (λ v. unless n found (next v))
  front_unless None = f
  front_unless (Some p) = barred (refusal n p) out (λ v. refl)

-- ---- from planes to the law

same_refusal : {r s : Refusal} → ◌≡◌ {A = Verdict ℤ} (refused r) (refused s) → r ≡ s
same_refusal e = cc

closed_refusing : (p : Plane) (r : Refusal) → r.number ≤ 17 → closed p ≡ refused r → p ≡ refusing r
unfolding closed
closed_refusing (refusing x) r l e = ap refusing (same_refusal e)
closed_refusing (read values s) r l e = go (only_padding s) e
  where
    go : (b : Bool) → need b 18 s.seen (given values) ≡ refused r → read values s ≡ refusing r
    go true e = absurd (refused_given (sym e))
    go false e = let q : 18 ≡ r.number = ap (λ (x : Refusal). x.number) (same_refusal e) in absurd (omega arith)

refusing_closed : (p : Plane) (r : Refusal) → p ≡ refusing r → closed p ≡ refused r
unfolding closed
refusing_closed p r e = rw e

tidy_take : (n : ℕ) (l : List ℕ) → n < length l → (get_or l n 0 ≡ 255 → ⊥) → tidy (take (suc n) l) ≡ true
tidy_take n [] h q = absurd (omega arith)
tidy_take zero (b ∷ l) h q = rw (ne_eqb b 255 q)
tidy_take (suc n) (b ∷ []) h q = absurd (omega arith)
tidy_take (suc n) (b ∷ c ∷ l) h q = tidy_take n (c ∷ l) (omega arith) q

module _ (bytes : List ℕ) (k : ℕ) (C E : Type 0) where
  same_is : (r : Refusal) (p : Plane) → SamePlane bytes k C E (refusing r) p → (p ≡ refusing r) × Within bytes k C E (stop r.number r.second)
  same_is r (read values u) h = absurd h
  same_is r (refusing s) h = (ap refusing (sym h.0), h.1)

one_refusing : {r s : Refusal} → refusing r ≡ refusing s → r ≡ s
one_refusing e = cc

module _ (plane : List ℕ → Plane) (tests : Verdict ℤ → Verdict ℤ) (front : Front tests) (twice : ((v : Verdict ℤ) → tests v ≡ v) → Twice plane) where
  abbrev reads : List ℕ → Verdict ℤ
  reads bytes = tests (closed (plane bytes))

  -- a refusal with these numbers is one of the blocks
  record Halt (bytes : List ℕ) (n p q : ℕ) : Type 0 where
    clear : (v : Verdict ℤ) → tests v ≡ v
    halts : plane bytes ≡ refusing (refusal_at n p q)

  halted : (bytes : List ℕ) (n p q : ℕ) → 12 ≤ n → n ≤ 17 → Refuses reads bytes n p q → Halt bytes n p q
  halted bytes n p q l m e = go front
    where
      out_of : (r : Refusal) → r ≡ refusal_at n p q → (r.number < 12) ⊎ (17 < r.number) → ⊥
      out_of r s (inl h) = let z : r.number ≡ n = ap (λ (x : Refusal). x.number) s in omega arith
      out_of r s (inr h) = let z : r.number ≡ n = ap (λ (x : Refusal). x.number) s in omega arith

      go : Front tests → Halt bytes n p q
      go (clear f) = record { clear = f; halts = closed_refusing (plane bytes) (refusal_at n p q) m (sym (f (closed (plane bytes))) ∙ e) }
      go (barred r out f) = absurd (out_of r (same_refusal (sym (f (closed (plane bytes))) ∙ e)) out)

  module _ (bytes : List ℕ) (n p q : ℕ) (h : Halt bytes n p q) where
    -- the same data once more: the refusal stands within them, or the data end early
    whole : Within bytes (length bytes) ⊥ (Unit {0}) (stop n q) ⊎ ((n ≡ 12) × (q ≡ length bytes))
    whole = go ((twice h.clear).both bytes (length bytes) ⊥ (Unit {0}) [] (omega arith) (unsaid (λ c. c)) (λ e. refl))
      where
        again : plane (take (length bytes) bytes ++ []) ≡ refusing (refusal_at n p q)
        again = ap plane (append-nil (take (length bytes) bytes) ∙ take-length bytes) ∙ h.halts

        go : Planes bytes (length bytes) ⊥ (Unit {0}) (plane bytes) (plane (take (length bytes) bytes ++ []))
            → Within bytes (length bytes) ⊥ (Unit {0}) (stop n q) ⊎ ((n ≡ 12) × (q ≡ length bytes))
        go (inl s) =
            let s' = subst (λ (x : Plane). SamePlane bytes (length bytes) ⊥ (Unit {0}) x (plane (take (length bytes) bytes ++ []))) h.halts s in
            inl (same_is bytes (length bytes) ⊥ (Unit {0}) (refusal_at n p q) (plane (take (length bytes) bytes ++ [])) s').1
        go (inr s) =
            let e = s.1 tt in
            let r = one_refusing (sym again ∙ e.1) in
            inr (ap (λ (x : Refusal). x.number) r, ap (λ (x : Refusal). x.second) r)

    within : 13 ≤ n → Within bytes (length bytes) ⊥ (Unit {0}) (stop n q)
    within l = go whole
      where
        go : Within bytes (length bytes) ⊥ (Unit {0}) (stop n q) ⊎ ((n ≡ 12) × (q ≡ length bytes)) → Within bytes (length bytes) ⊥ (Unit {0}) (stop n q)
        go (inl w) = w
        go (inr e) = let z = e.0 in absurd (omega arith)

    -- cut in front of the byte
    cut_off : 13 ≤ n → (r : ℕ) × Refuses reads (take q bytes) 12 r q
    cut_off l = go ((twice h.clear).both bytes q ⊥ (Unit {0}) [] (let b = (within l).below in omega arith) (unsaid (λ c. c)) (λ e. refl))
      where
        go : Planes bytes q ⊥ (Unit {0}) (plane bytes) (plane (take q bytes ++ [])) → (r : ℕ) × Refuses reads (take q bytes) 12 r q
        go (inl s) =
            let s' = subst (λ (x : Plane). SamePlane bytes q ⊥ (Unit {0}) x (plane (take q bytes ++ []))) h.halts s in
            let b = (same_is bytes q ⊥ (Unit {0}) (refusal_at n p q) (plane (take q bytes ++ [])) s').1.below in
            absurd (omega arith)
        go (inr s) =
            let e = s.1 tt in
            (e.0, h.clear (closed (plane (take q bytes))) ∙ refusing_closed (plane (take q bytes)) _ (ap plane (sym (append-nil (take q bytes))) ∙ e.1))

    -- and behind it
    goes_on : (k : ℕ) (more : List ℕ) → q < k → k ≤ length bytes → Seam (Unit {0}) (take k bytes) (drop k bytes) more → Refuses reads (take k bytes ++ more) n p q
    goes_on k more l m t = go ((twice h.clear).both bytes k (Unit {0}) ⊥ more m t (λ e. absurd e))
      where
        go : Planes bytes k (Unit {0}) ⊥ (plane bytes) (plane (take k bytes ++ more)) → Refuses reads (take k bytes ++ more) n p q
        go (inl s) =
            let s' = subst (λ (x : Plane). SamePlane bytes k (Unit {0}) ⊥ x (plane (take k bytes ++ more))) h.halts s in
            h.clear (closed (plane (take k bytes ++ more))) ∙ refusing_closed _ _ (same_is bytes k (Unit {0}) ⊥ (refusal_at n p q) (plane (take k bytes ++ more)) s').0
        go (inr s) =
            let b : k ≤ q = subst (PastPlane bytes k (Unit {0}) ⊥) h.halts (s.0 tt) in
            absurd (omega arith)

    -- 13: its FF, and the byte behind it
    behind_two : n ≡ 13 → (more : List ℕ) → Refuses reads (take (q + 2) bytes ++ more) n p q
    behind_two e more =
        let m = (within (omega arith)).marker e in
        let v : ℕ = get_or bytes (q + 1) 0 in
        let z : v ≡ suc (v - 1) = omega (arith, m.2) in
        let two : q + 2 ≡ suc (q + 1) = omega arith in
        let same : take (q + 2) bytes ++ more ≡ take (q + 1) bytes ++ (v ∷ more) = ap (λ (j : ℕ). take j bytes ++ more) two ∙ (ap (λ (l : List ℕ). l ++ more) (take-suc bytes (q + 1) 0 m.1) ∙ append_assoc (take (q + 1) bytes) (v ∷ []) more) in
        rw same (goes_on (q + 1) (v ∷ more) (omega arith) (let b = m.1 in omega arith)
        (marked (drop-cons bytes (q + 1) 0 m.1 ∙ ap (λ (b : ℕ). b ∷ drop (suc (q + 1)) bytes) z) (ap (λ (b : ℕ). b ∷ more) z)))

    -- 14 to 17: the byte, and the 00 of an FF
    behind_one : 14 ≤ n → (more : List ℕ) → Refuses reads (take (q + size (get_or bytes q 0)) bytes ++ more) n p q
    behind_one l more = go (eqb (get_or bytes q 0) 255) refl
      where
        w : Within bytes (length bytes) ⊥ (Unit {0}) (stop n q)
        w = within (omega arith)

        go : (b : Bool) → eqb (get_or bytes q 0) 255 ≡ b → Refuses reads (take (q + cond b 2 1) bytes ++ more) n p q
        go true e =
            let d = w.pair (omega arith) (eqb-true (get_or bytes q 0) 255 e) in
            let two : q + 2 ≡ suc (q + 1) = omega arith in
            let None : get_or bytes (q + 1) 0 ≡ 255 → ⊥ = λ f. let g = d.1 in omega arith in
            goes_on (q + 2) more (omega arith) (let b = d.0 in omega arith) (even (ap (λ (j : ℕ). tidy (take j bytes)) two ∙ tidy_take (q + 1) bytes d.0 None))
        go false e =
            let one : q + 1 ≡ suc q = omega arith in
            goes_on (q + 1) more (omega arith) (let b = w.below in omega arith) (even (ap (λ (j : ℕ). tidy (take j bytes)) one ∙ tidy_take q bytes w.below (eqb-false (get_or bytes q 0) 255 e)))

    behind : 13 ≤ n → (more : List ℕ) → Refuses reads (take (q + size (get_or bytes q 0)) bytes ++ more) n p q
    behind l more = go (either (eqb n 13))
      where
        go : (eqb n 13 ≡ true) ⊎ (eqb n 13 ≡ false) → Refuses reads (take (q + size (get_or bytes q 0)) bytes ++ more) n p q
        go (inl t) =
            let e : n ≡ 13 = eqb-true n 13 t in
            rw (eq-eqb _ _ ((within l).marker e).0) (behind_two e more)
        go (inr t) = behind_one (let h : n ≡ 13 → ⊥ = eqb-false n 13 t in omega arith) more

  which : WhichByte reads
  which = record {
    missing = λ bytes p q e. go bytes 12 p q (whole bytes 12 p q (halted bytes 12 p q (omega arith) (omega arith) e));
    below = λ bytes n p q l m e. (within bytes n p q (halted bytes n p q (omega arith) (omega arith) e) (omega arith)).below;
    marker = λ bytes p q e. (within bytes 13 p q (halted bytes 13 p q (omega arith) (omega arith) e) (omega arith)).marker refl;
    carries = λ bytes n p q l m e. (within bytes n p q (halted bytes n p q (omega arith) (omega arith) e) (omega arith)).apart;
    asked = λ bytes n p q l m e. cut_off bytes n p q (halted bytes n p q (omega arith) (omega arith) e) (omega arith);
    last = λ bytes more n p q l m e. behind bytes n p q (halted bytes n p q (omega arith) (omega arith) e) (omega arith) more;
  }
    where
      go : (bytes : List ℕ) (n p q : ℕ) → Within bytes (length bytes) ⊥ (Unit {0}) (stop 12 q) ⊎ ((n ≡ 12) × (q ≡ length bytes)) → q ≡ length bytes
      go bytes n p q (inl w) = absurd (w.later refl)
      go bytes n p q (inr e) = e.1

-- ---- both readers

module _ (plane blocks : ℕ) (values : List ℤ) (room : ℕ) where
  abbrev dc_tests : Verdict ℤ → Verdict ℤ
  dc_tests v =
      need (every (readable plane blocks)) 20 0
      (need (eqb (length values) blocks) 21 0
      (unless 11 (first_outside Dc (plane - 1) values)
      (need (leb blocks room) 9 blocks v)))

  dc_front : Front dc_tests
  dc_front =
      front_need (front_need (front_unless (front_need (clear (λ v. refl)) 9 (inl (omega arith)) (leb blocks room) blocks)
      11 (inl (omega arith)) (first_outside Dc (plane - 1) values))
      21 (inr (omega arith)) (eqb (length values) blocks) 0)
      20 (inr (omega arith)) (every (readable plane blocks)) 0

  pub dc_which : WhichByte (λ bytes. read_dc plane blocks values bytes room)
  unfolding read_dc
  dc_which = which (λ bytes. dc_blocks 0 values (start bytes)) dc_tests dc_front (λ f. dc_twice values)

  module _ (codes : Table) where
    abbrev ac_tests : Verdict ℤ → Verdict ℤ
    ac_tests v =
        need (every (readable plane blocks)) 20 0
        (need (eqb (length values) (63 * blocks)) 21 0
        (need (good_table codes) 10 0
        (unless 11 (first_outside Ac (plane - 1) values)
        (need (leb (63 * blocks) room) 9 (63 * blocks) v))))

    ac_front : Front ac_tests
    ac_front =
        front_need (front_need (front_need (front_unless (front_need (clear (λ v. refl)) 9 (inl (omega arith)) (leb (63 * blocks) room) (63 * blocks))
        11 (inl (omega arith)) (first_outside Ac (plane - 1) values))
        10 (inl (omega arith)) (good_table codes) 0)
        21 (inr (omega arith)) (eqb (length values) (63 * blocks)) 0)
        20 (inr (omega arith)) (every (readable plane blocks)) 0

    -- where the tests are passed, the values are those of the blocks, and the table is one
    ac_passed : ((v : Verdict ℤ) → ac_tests v ≡ v) → Twice (λ bytes. ac_blocks codes 0 None (cut blocks values) (start bytes))
    ac_passed f =
        let a = need_given (every (readable plane blocks)) 20 0 _ [] (f (given [])) in
        let b = need_given (eqb (length values) (63 * blocks)) 21 0 _ [] a.1 in
        let t = need_given (good_table codes) 10 0 _ [] b.1 in
        ac_twice codes (let s = (good codes t.0).sixteen in omega arith) blocks values (eqb-true (length values) (63 * blocks) b.0)

    pub ac_which : WhichByte (λ bytes. read_ac plane blocks codes values bytes room)
    unfolding read_ac
    ac_which = which (λ bytes. ac_blocks codes 0 None (cut blocks values) (start bytes)) ac_tests ac_front ac_passed
