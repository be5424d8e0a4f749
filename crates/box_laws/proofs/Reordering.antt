-- The answer for packets does not move with their order: its number, its place and its bytes. Assumes nothing.
use Rattle.answers.specs.declared.Refusal.{Refusal}
use Prim.Native.Nat.{ℕ, zero, suc, ◌-◌, ◌≤◌}
use mathlib.Core.Path.{◌≡◌, refl, ap, ap₂, sym, ◌∙◌}
use mathlib.Core.Logic.{⊎_elim}
use mathlib.Core.List.{List, [], ◌∷◌, ◌++◌}
use mathlib.Core.Bool.{Bool, true, false, cond}
use native.Mathlib.Omega.{arith}
use lib.ListN.{length}
use lib.Dec.{eqb}
use borrow.Author.Tests.{eqb-true}
use Rattle.std.specs.Prelude.{Option, Some, None, Result}
use Rattle.laws.proofs.Choices.{either, cond_left, cond_right, cond_swap, true_false}
use Rattle.answers.specs.Verdict.{Verdict, refused, refusal, need, unless, fitting}
use Rattle.box_rules.specs.declared.Head.{Head}
use Rattle.box_rules.specs.Walk.{walk, ending}
use Rattle.box_rules.specs.Packets.{Packet, packets, mine}
use Rattle.box_rules.specs.Numbers.{numbers, count, first_twice, missing_from, first_missing}
use Rattle.box_rules.specs.Box.{alike, agree, contents, total, numbered, joined_from, joined, assembled, assemble, after_walk, box_bytes}
use Rattle.box_rules.proofs.Counts.{count_grows}
use Rattle.box_rules.specs.Order.{Reordered, none, keep, swap, both}
use Rattle.box_laws.proofs.Smallest.{never_twice, smallest_twice, twice_none, twice_is}

-- ---- what an ordering keeps

swap_count : (x y : Bool) (c : ℕ) → cond x (suc (cond y (suc c) c)) (cond y (suc c) c) ≡ cond y (suc (cond x (suc c) c)) (cond x (suc c) c)
swap_count true true c = refl
swap_count true false c = refl
swap_count false true c = refl
swap_count false false c = refl

same_count : {a b : List Packet} → Reordered a b → (q : ℕ) → count q (numbers a) ≡ count q (numbers b)
unfolding numbers count
same_count none q = refl
same_count (keep h) q = rw (same_count h q)
same_count (swap {p} {q = r} {a}) q = swap_count (eqb p.head.number q) (eqb r.head.number q) (count q (numbers a))
same_count (both g h) q = same_count g q ∙ same_count h q

pub same_agree : {a b : List Packet} → Reordered a b → (h : Head) → agree h a ≡ agree h b
unfolding agree
same_agree none h = refl
same_agree (keep g) h = rw (same_agree g h)
same_agree (swap {p} {q = r} {a}) h = cond_swap (alike h p.head) (alike h r.head) (agree h a)
same_agree (both f g) h = same_agree f h ∙ same_agree g h

pub same_total : {a b : List Packet} → Reordered a b → total a ≡ total b
unfolding total
same_total none = refl
same_total (keep h) = rw (same_total h)
same_total swap = omega arith
same_total (both g h) = same_total g ∙ same_total h

pub same_length : {a b : List Packet} → Reordered a b → length a ≡ length b
same_length none = refl
same_length (keep h) = rw (same_length h)
same_length swap = refl
same_length (both g h) = same_length g ∙ same_length h

swap_numbered : (x y : Bool) (c : ℕ) (p r n : List ℕ) → cond x (suc (cond y (suc c) c)) (cond y (suc c) c) ≤ 1
    → cond x (p ++ cond y (r ++ n) n) (cond y (r ++ n) n) ≡ cond y (r ++ cond x (p ++ n) n) (cond x (p ++ n) n)
swap_numbered true true c p r n h = absurd (omega arith)
swap_numbered true false c p r n h = refl
swap_numbered false true c p r n h = refl
swap_numbered false false c p r n h = refl

same_numbered : {a b : List Packet} → Reordered a b → (q : ℕ) → count q (numbers a) ≤ 1 → numbered q a ≡ numbered q b
unfolding numbered numbers count
same_numbered none q h = refl
same_numbered (keep {p} {a} g) q h = rw (same_numbered g q (omega (arith, count_grows p.head.number q (numbers a))))
same_numbered (swap {p} {q = r} {a}) q h =
    swap_numbered (eqb p.head.number q) (eqb r.head.number q) (count q (numbers a)) p.payload r.payload (numbered q a) h
same_numbered (both f g) q h = same_numbered f q h ∙ same_numbered g q (omega (arith, same_count f q))

-- joined looks only at the numbers from a on
pub same_joined : (x y : List Packet) (k a : ℕ) → ((j : ℕ) → a ≤ j → numbered j x ≡ numbered j y) → joined_from k a x ≡ joined_from k a y
unfolding joined_from
same_joined x y zero a h = refl
same_joined x y (suc k) a h = rw (h a (omega arith), same_joined x y k (suc a) (λ j g. h j (omega arith)))

pub numbers_length : (a : List Packet) → length (numbers a) ≡ length a
unfolding numbers
numbers_length [] = refl
numbers_length (p ∷ a) = ap suc (numbers_length a)

-- ---- which head the stated length is compared with

pub alike_contents : (h g : Head) → alike h g ≡ true → contents g ≡ contents h
unfolding alike contents
alike_contents h g e =
    let s : g.stated ≡ h.stated = eqb-true g.stated h.stated (cond_left (eqb g.stated h.stated) (eqb g.heading h.heading) e) in
    let t : g.heading ≡ h.heading = eqb-true g.heading h.heading (cond_right (eqb g.stated h.stated) (eqb g.heading h.heading) e) in
    ap₂ (λ (x y : ℕ). x - y) s t

-- who agrees with one head agrees with each that it is alike
alike_alike : (h g k : Head) → alike h g ≡ true → alike h k ≡ alike g k
unfolding alike
alike_alike h g k e =
    let s : g.stated ≡ h.stated = eqb-true g.stated h.stated (cond_left (eqb g.stated h.stated) (eqb g.heading h.heading) e) in
    let t : g.heading ≡ h.heading = eqb-true g.heading h.heading (cond_right (eqb g.stated h.stated) (eqb g.heading h.heading) e) in
    ap₂ (λ (x y : ℕ). cond (eqb k.stated x) (eqb k.heading y) false) (sym s) (sym t)

pub alike_agree : (h g : Head) (ps : List Packet) → alike h g ≡ true → agree h ps ≡ agree g ps
unfolding agree
alike_agree h g [] e = refl
alike_agree h g (p ∷ r) e = rw (alike_alike h g p.head e, alike_agree h g r e)

pub first_alike : (h : Head) (p : Packet) (r : List Packet) → agree h (p ∷ r) ≡ true → alike h p.head ≡ true
unfolding agree
first_alike h p r a = cond_left (alike h p.head) (agree h r) a

-- ---- 6 and 7 look at numbers only through how often each stands

module _ (ns ms : List ℕ) (h : (q : ℕ) → count q ns ≡ count q ms) where
  twice_by_count : first_twice ns ≡ first_twice ms
  twice_by_count = go (first_twice ns) refl
    where
      go : (f : Option ℕ) → first_twice ns ≡ f → first_twice ns ≡ first_twice ms
      go None e = e ∙ sym (twice_none ms (λ q. rw (← h q) (never_twice ns e q)))
      go (Some q) e = let s = smallest_twice ns q e in e ∙ sym (twice_is ms q (rw (← h q) s.0) (λ j l. rw (← h j) (s.1 j l)))

  missing_by_count : (k a : ℕ) → missing_from k a ns ≡ missing_from k a ms
  unfolding missing_from
  missing_by_count zero a = refl
  missing_by_count (suc k) a = rw (h a, missing_by_count k (suc a))

-- ---- what the tests of a box see

-- 7 to 9
abbrev rest : ℕ → Head → List Packet → Verdict ℕ
rest room k ps = unless 7 (first_missing (numbers ps)) (need (eqb (total ps) (contents k)) 8 (total ps) (fitting room (joined ps)))

module _ {a b : List Packet} (h : Reordered a b) where
  pub twice_kept : first_twice (numbers a) ≡ first_twice (numbers b)
  twice_kept = twice_by_count (numbers a) (numbers b) (same_count h)

  missing_kept : first_missing (numbers a) ≡ first_missing (numbers b)
  unfolding first_missing
  missing_kept =
      let n : length (numbers a) ≡ length (numbers b) = numbers_length a ∙ same_length h ∙ sym (numbers_length b) in
      rw n (missing_by_count (numbers a) (numbers b) (same_count h) (length (numbers b)) 1)

  pub joined_kept : first_twice (numbers a) ≡ None → joined a ≡ joined b
  unfolding joined
  joined_kept t =
      same_joined a b (length a) 1 (λ j g. same_numbered h j (never_twice (numbers a) t j)) ∙ ap (λ (n : ℕ). joined_from n 1 b) (same_length h)

  -- 5 to 9, where the heads that are asked state one length
  assembled_kept : (f g : Head) (room : ℕ) → alike f g ≡ true → assembled room f a ≡ assembled room g b
  unfolding assembled
  assembled_kept f g room e =
      rw (same_agree h f ∙ alike_agree f g b e)
      (ap (λ (v : Verdict ℕ). need (agree g b) 5 0 v) (go (first_twice (numbers a)) refl ∙ ap (λ (t : Option ℕ). unless 6 t (rest room g b)) twice_kept))
    where
      go : (t : Option ℕ) → first_twice (numbers a) ≡ t → unless 6 t (rest room f a) ≡ unless 6 t (rest room g b)
      go (Some q) t = refl
      go None t = rw (missing_kept, same_total h, joined_kept t, ← alike_contents f g e)

-- 5, said of either first head
disagreed : (room : ℕ) (k : Head) (ps : List Packet) → agree k ps ≡ false → assembled room k ps ≡ refused (refusal 5 0)
unfolding assembled
disagreed room k ps e = rw e

-- 5 to 9 for packets in two orders, each asked by the head of its first
firsts_kept : (room : ℕ) (p q : Packet) (r s : List Packet) → Reordered (p ∷ r) (q ∷ s) → assembled room p.head (p ∷ r) ≡ assembled room q.head (q ∷ s)
firsts_kept room p q r s h =
    ⊎_elim
    (λ t. assembled_kept h p.head q.head room (first_alike p.head q s (sym (same_agree h p.head) ∙ t)))
    (λ t. disagreed room p.head (p ∷ r) t ∙ sym (disagreed room q.head (q ∷ s) (other t)))
    (either (agree p.head (p ∷ r)))
  where
    other : agree p.head (p ∷ r) ≡ false → agree q.head (q ∷ s) ≡ false
    other t =
        ⊎_elim
        (λ u. let v : agree q.head (p ∷ r) ≡ true = same_agree h q.head ∙ u in
        absurd (true_false (sym v ∙ alike_agree q.head p.head (p ∷ r) (first_alike q.head p r v) ∙ t)))
        (λ u. u)
        (either (agree q.head (q ∷ s)))

-- 4 to 9
pub same_assemble : (room : ℕ) (a b : List Packet) → Reordered a b → assemble room a ≡ assemble room b
unfolding assemble
same_assemble room [] [] h = refl
same_assemble room [] (q ∷ s) h = absurd (omega (arith, same_length h))
same_assemble room (p ∷ r) [] h = absurd (omega (arith, same_length h))
same_assemble room (p ∷ r) (q ∷ s) h = firsts_kept room p q r s h

-- the answer is seen only through how the walk ends and through what assembly makes of the packets of the type and instance
pub same_verdict : (file file' : List ℕ) (kind instance room : ℕ) → ending (walk file) ≡ ending (walk file')
    → assemble room (mine kind instance (packets file)) ≡ assemble room (mine kind instance (packets file')) → box_bytes file kind instance room ≡ box_bytes file' kind instance room
unfolding box_bytes
same_verdict file file' kind instance room = ap₂ (λ (o : Result ℕ Refusal) (v : Verdict ℕ). after_walk o v)

-- "File order doesn't matter": these packets may stand in any order
pub same_answer : (file file' : List ℕ) (kind instance room : ℕ) → ending (walk file) ≡ ending (walk file')
    → Reordered (mine kind instance (packets file)) (mine kind instance (packets file')) → box_bytes file kind instance room ≡ box_bytes file' kind instance room
same_answer file file' kind instance room e h =
    same_verdict file file' kind instance room e (same_assemble room (mine kind instance (packets file)) (mine kind instance (packets file')) h)
