-- The law of P11: bytes are handed out exactly if an ordering exists, then these are the bytes, and two orderings give the same. Assumes nothing.
use Rattle.answers.specs.declared.Refusal.{Refusal}
use Prim.Native.Nat.{ℕ, zero, suc, ◌+◌, ◌≤◌, ◌<◌}
use mathlib.Core.Path.{◌≡◌, refl, ap, ap₂, sym, subst, ◌∙◌}
use mathlib.Core.Logic.{⊎_elim}
use mathlib.Core.List.{List, [], ◌∷◌, ◌++◌, append-nil, append_assoc}
use mathlib.Core.Bool.{true, cond}
use native.Mathlib.Omega.{arith}
use lib.ListN.{length, length-append}
use lib.Dec.{eqb, leb}
use borrow.Author.Tests.{eq-eqb, ne_eqb, eqb-true, eqb-false, leb-true}
use Rattle.std.specs.Prelude.{None, Result, Ok, Err}
use Rattle.laws.proofs.Choices.{either}
use Rattle.answers.specs.Verdict.{given}
use Rattle.answers.proofs.Given.{refused_given, need_given, unless_given, fits}
use Rattle.box_rules.specs.declared.Head.{Head}
use Rattle.box_rules.specs.Walk.{walk, ending}
use Rattle.box_rules.specs.Packets.{Packet, packets, mine}
use Rattle.box_rules.proofs.Walking.{ended}
use Rattle.box_rules.proofs.Strangers.{self}
use Rattle.box_rules.specs.Numbers.{numbers, count, first_twice, first_missing}
use Rattle.box_rules.proofs.Counts.{numbers_append}
use Rattle.box_laws.proofs.Smallest.{never_twice, twice_none, never_missing, missing_none}
use Rattle.box_laws.proofs.Reordering.{same_agree, same_total, same_length, same_joined, numbers_length, alike_contents, alike_agree, first_alike, twice_kept, joined_kept, same_assemble}
use Rattle.box_rules.specs.Box.{alike, agree, contents, total, numbered, joined_from, joined, assembled, assemble, after_walk, box_bytes}
use Rattle.box_rules.specs.Order.{Reordered, none, keep, swap, both, counting, payloads, Makes, HandedOut}

-- ---- the numbers a, a + 1, ..

-- none is below the first
pub low : (a k q : ℕ) → q < a → count q (counting a k) ≡ 0
unfolding counting count
low a zero q h = refl
low a (suc k) q h = rw (ne_eqb a q (λ x. omega arith)) (low (suc a) k q (omega arith))

-- none stands twice
once : (a k q : ℕ) → count q (counting a k) ≤ 1
unfolding counting count
once a zero q = omega arith
once a (suc k) q =
    ⊎_elim
    (λ t. let u : a ≡ q = eqb-true a q t in rw t (omega (arith, low (suc a) k q (omega arith))))
    (λ t. rw t (once (suc a) k q))
    (either (eqb a q))

-- each of the k numbers is there
there : (a k q : ℕ) → a ≤ q → q < a + k → 1 ≤ count q (counting a k)
unfolding counting count
there a zero q g h = absurd (omega arith)
there a (suc k) q g h =
    ⊎_elim
    (λ t. rw t (omega arith))
    (λ t. let u : (a ≡ q → ⊥) = eqb-false a q t in rw t (there (suc a) k q (omega arith) (omega arith)))
    (either (eqb a q))

cons_head : {x y : ℕ} {a b : List ℕ} → ◌≡◌ {A = List ℕ} (x ∷ a) (y ∷ b) → x ≡ y
cons_head e = cc

cons_tail : {x y : ℕ} {a b : List ℕ} → ◌≡◌ {A = List ℕ} (x ∷ a) (y ∷ b) → a ≡ b
cons_tail e = cc

nil_cons : {y : ℕ} {b : List ℕ} → ◌≡◌ {A = List ℕ} [] (y ∷ b) → ⊥
nil_cons e = let z : ◌≡◌ {A = ℕ} 0 1 = cc in omega arith

cons_nil : {y : ℕ} {b : List ℕ} → ◌≡◌ {A = List ℕ} (y ∷ b) [] → ⊥
cons_nil e = let z : ◌≡◌ {A = ℕ} 0 1 = cc in omega arith

pub none_numbered : (ps : List Packet) (q : ℕ) → count q (numbers ps) ≡ 0 → numbered q ps ≡ []
unfolding numbers count numbered
none_numbered [] q h = refl
none_numbered (p ∷ r) q h =
    ⊎_elim
    (λ t. let z : suc (count q (numbers r)) ≡ 0 = (rw t at h) in absurd (omega arith))
    (λ t. rw t (none_numbered r q (rw t at h)))
    (either (eqb p.head.number q))

joined_reads : (l : List Packet) (a k : ℕ) → numbers l ≡ counting a k → joined_from k a l ≡ payloads l
unfolding numbers counting joined_from payloads numbered
joined_reads [] a zero e = refl
joined_reads [] a (suc k) e = absurd (nil_cons e)
joined_reads (p ∷ r) a zero e = absurd (cons_nil e)
joined_reads (p ∷ r) a (suc k) e =
    let n : p.head.number ≡ a = cons_head e in
    let f : joined_from k (suc a) (p ∷ r) ≡ joined_from k (suc a) r =
    same_joined (p ∷ r) r k (suc a) (λ j g. rw (ne_eqb p.head.number j (λ x. omega arith))) in
    let z : count a (numbers r) ≡ 0 = ap (count a) (cons_tail e) ∙ low (suc a) k a (omega arith) in
    rw (eq-eqb p.head.number a n, f, joined_reads r (suc a) k (cons_tail e), none_numbered r a z, append-nil)

payloads_total : (l : List Packet) → length (payloads l) ≡ total l
unfolding payloads total
payloads_total [] = refl
payloads_total (p ∷ r) = length-append p.payload (payloads r) ∙ rw (payloads_total r)

-- ---- packets in order

module _ (l : List Packet) (e : numbers l ≡ counting 1 (length l)) where
  pub reads_twice : first_twice (numbers l) ≡ None
  reads_twice = twice_none (numbers l) (λ q. rw (ap (count q) e) (once 1 (length l) q))

  pub reads_missing : first_missing (numbers l) ≡ None
  unfolding first_missing
  reads_missing = rw (numbers_length l) (missing_none (numbers l) (length l) 1 (λ j u v. rw (ap (count j) e) (there 1 (length l) j u v)))

  pub reads_joined : joined l ≡ payloads l
  unfolding joined
  reads_joined = joined_reads l 1 (length l) e

-- packets whose ordering reads 1, 2, ..
module _ (ps l : List Packet) (h : Reordered ps l) (e : numbers l ≡ counting 1 (length ps)) where
  ordered : numbers l ≡ counting 1 (length l)
  ordered = e ∙ ap (counting 1) (same_length h)

  order_joined : joined ps ≡ payloads l
  order_joined = joined_kept h (twice_kept h ∙ reads_twice l ordered) ∙ reads_joined l ordered

-- ---- the ordering that is there when no number stands twice and none is missing

only : ℕ → List Packet → List Packet
only q [] = []
only q (p ∷ r) = cond (eqb p.head.number q) (p ∷ only q r) (only q r)

without : ℕ → List Packet → List Packet
without q [] = []
without q (p ∷ r) = cond (eqb p.head.number q) (without q r) (p ∷ without q r)

pub sorted : ℕ → ℕ → List Packet → List Packet
sorted zero q ps = []
sorted (suc k) q ps = only q ps ++ sorted k (suc q) (without q ps)

left : ℕ → ℕ → List Packet → List Packet
left zero q ps = ps
left (suc k) q ps = left k (suc q) (without q ps)

-- p behind a is p in front of it
sift : (p : Packet) (a b : List Packet) → Reordered (p ∷ (a ++ b)) (a ++ (p ∷ b))
sift p [] b = self (p ∷ b)
sift p (q ∷ a) b = both swap (keep (sift p a b))

under : (a : List Packet) {b c : List Packet} → Reordered b c → Reordered (a ++ b) (a ++ c)
under [] h = h
under (p ∷ a) h = keep (under a h)

parted : (q : ℕ) (ps : List Packet) → Reordered ps (only q ps ++ without q ps)
unfolding only without
parted q [] = none
parted q (p ∷ r) =
    ⊎_elim
    (λ t. rw t (keep (parted q r)))
    (λ t. rw t (both (keep (parted q r)) (sift p (only q r) (without q r))))
    (either (eqb p.head.number q))

sorts : (k q : ℕ) (ps : List Packet) → Reordered ps (sorted k q ps ++ left k q ps)
unfolding sorted left
sorts zero q ps = self ps
sorts (suc k) q ps = rw append_assoc (both (parted q ps) (under (only q ps) (sorts k (suc q) (without q ps))))

count_without : (q j : ℕ) (ps : List Packet) → (q ≡ j → ⊥) → count j (numbers (without q ps)) ≡ count j (numbers ps)
unfolding numbers count without
count_without q j [] h = refl
count_without q j (p ∷ r) h =
    ⊎_elim
    (λ t. let u : p.head.number ≡ q = eqb-true p.head.number q t in
    rw (t, ne_eqb p.head.number j (λ x. h (sym u ∙ x))) (count_without q j r h))
    (λ t. rw t (ap (λ (n : ℕ). cond (eqb p.head.number j) (suc n) n) (count_without q j r h)))
    (either (eqb p.head.number q))

replicated : ℕ → ℕ → List ℕ
replicated zero q = []
replicated (suc n) q = q ∷ replicated n q

only_numbers : (q : ℕ) (ps : List Packet) → numbers (only q ps) ≡ replicated (count q (numbers ps)) q
unfolding numbers only count replicated
only_numbers q [] = refl
only_numbers q (p ∷ r) =
    ⊎_elim
    (λ t. rw t (ap₂ (λ (x : ℕ) (y : List ℕ). x ∷ y) (eqb-true p.head.number q t) (only_numbers q r)))
    (λ t. rw t (only_numbers q r))
    (either (eqb p.head.number q))

sorted_reads : (k q : ℕ) (ps : List Packet) → ((j : ℕ) → q ≤ j → j < q + k → count j (numbers ps) ≡ 1) → numbers (sorted k q ps) ≡ counting q k
unfolding numbers sorted counting replicated
sorted_reads zero q ps h = refl
sorted_reads (suc k) q ps h =
    let one : count q (numbers ps) ≡ 1 = h q (omega arith) (omega arith) in
    numbers_append (only q ps) (sorted k (suc q) (without q ps))
    ∙ rw (only_numbers q ps, one, sorted_reads k (suc q) (without q ps) (λ j u v. count_without q j ps (λ x. omega arith) ∙ h j (omega arith) (omega arith)))

counting_length : (q k : ℕ) → length (counting q k) ≡ k
unfolding counting
counting_length q zero = refl
counting_length q (suc k) = ap suc (counting_length (suc q) k)

empty : (a : List Packet) → length a ≡ 0 → a ≡ []
empty [] e = refl
empty (p ∷ a) e = absurd (omega arith)

sorts_all : (ps : List Packet) → ((j : ℕ) → 1 ≤ j → j < 1 + length ps → count j (numbers ps) ≡ 1)
    → Reordered ps (sorted (length ps) 1 ps) × (numbers (sorted (length ps) 1 ps) ≡ counting 1 (length ps))
sorts_all ps h =
    let n : ℕ = length ps in
    let r = sorted_reads n 1 ps h in
    let s = sorts n 1 ps in
    let z : length (sorted n 1 ps) ≡ n = sym (numbers_length (sorted n 1 ps)) ∙ ap length r ∙ counting_length 1 n in
    let y : left n 1 ps ≡ [] = empty (left n 1 ps) (omega (arith, same_length s, length-append (sorted n 1 ps) (left n 1 ps))) in
    (rw append-nil at (rw y at s), r)

pub each_once : (ps : List Packet) → first_twice (numbers ps) ≡ None → first_missing (numbers ps) ≡ None → (j : ℕ) → 1 ≤ j → j < 1 + length ps → count j (numbers ps) ≡ 1
unfolding first_missing
each_once ps t m j u v =
    omega (arith, never_twice (numbers ps) t j, never_missing (numbers ps) (length (numbers ps)) 1 m j u (omega (arith, numbers_length ps)))

pub sorted_makes : (ps : List Packet) → first_twice (numbers ps) ≡ None → first_missing (numbers ps) ≡ None
    → Reordered ps (sorted (length ps) 1 ps) × (numbers (sorted (length ps) 1 ps) ≡ counting 1 (length ps))
sorted_makes ps t m = sorts_all ps (each_once ps t m)

pub fine_total : (ps : List Packet) → first_twice (numbers ps) ≡ None → first_missing (numbers ps) ≡ None → length (joined ps) ≡ total ps
fine_total ps t m =
    let l : List Packet = sorted (length ps) 1 ps in
    let s = sorted_makes ps t m in
    ap length (order_joined ps l s.0 s.1) ∙ payloads_total l ∙ sym (same_total s.0)

-- ---- the law, for a list of packets

-- packets in order, all of which state what h states: these are the bytes, given room
ordered_given : (p : Packet) (r : List Packet) (h : Head) (room : ℕ) → numbers (p ∷ r) ≡ counting 1 (length (p ∷ r)) → agree h (p ∷ r) ≡ true
    → length (payloads (p ∷ r)) ≡ contents h → length (payloads (p ∷ r)) ≤ room → assemble room (p ∷ r) ≡ given (payloads (p ∷ r))
unfolding assemble assembled
ordered_given p r h room e a f k =
    let g : alike h p.head ≡ true = first_alike h p r a in
    let sum : total (p ∷ r) ≡ contents p.head = sym (payloads_total (p ∷ r)) ∙ f ∙ sym (alike_contents h p.head g) in
    rw (
      sym (alike_agree h p.head (p ∷ r) g) ∙ a,
      reads_twice (p ∷ r) e,
      reads_missing (p ∷ r) e,
      eq-eqb (total (p ∷ r)) (contents p.head) sum,
      reads_joined (p ∷ r) e,
    )
    (fits room (payloads (p ∷ r)) k)

-- an ordering that makes a box: the answer is that of the ordering
makes_given : (ps l : List Packet) (h : Head) (room : ℕ) → 0 < length ps → Makes ps l h → length (payloads l) ≤ room → assemble room ps ≡ given (payloads l)
makes_given ps [] h room s f k = absurd (omega (arith, same_length f.all))
makes_given ps (p ∷ r) h room s f k =
    same_assemble room ps (p ∷ r) f.all ∙ ordered_given p r h room (ordered ps (p ∷ r) f.all f.reads) f.one f.fills k

-- the tests that were passed, from the bytes
record Passed (room : ℕ) (h : Head) (ps : List Packet) (b : List ℕ) : Type 0 where
  same : agree h ps ≡ true
  single : first_twice (numbers ps) ≡ None
  whole : first_missing (numbers ps) ≡ None
  sum : total ps ≡ contents h
  out : b ≡ joined ps
  within : length b ≤ room

passed : (room : ℕ) (h : Head) (ps : List Packet) (b : List ℕ) → assembled room h ps ≡ given b → Passed room h ps b
unfolding assembled
passed room h ps b e =
    let a = need_given (agree h ps) 5 0 _ b e in
    let t = unless_given 6 (first_twice (numbers ps)) _ b a.1 in
    let m = unless_given 7 (first_missing (numbers ps)) _ b t.1 in
    let s = need_given (eqb (total ps) (contents h)) 8 (total ps) _ b m.1 in
    let f = need_given (leb (length (joined ps)) room) 9 (length (joined ps)) _ b s.1 in
    let o : b ≡ joined ps = cc in
    record { same = a.0; single = t.0; whole = m.0; sum = eqb-true _ _ s.0; out = o; within = subst (λ (x : List ℕ). length x ≤ room) (sym o) (leb-true _ _ f.0) }

-- bytes are handed out: an ordering that makes the box exists, and they are its payloads
given_makes : (p : Packet) (r : List Packet) (room : ℕ) (b : List ℕ) → assemble room (p ∷ r) ≡ given b
    → (l : List Packet) × Makes (p ∷ r) l p.head × (b ≡ payloads l) × (length b ≤ room)
unfolding assemble
given_makes p r room b e =
    let ps : List Packet = p ∷ r in
    let t = passed room p.head ps b e in
    let s = sorted_makes ps t.single t.whole in
    let l : List Packet = sorted (length ps) 1 ps in (
      l,
      record {
        all = s.0;
        reads = s.1;
        one = sym (same_agree s.0 p.head) ∙ t.same;
        fills = payloads_total l ∙ sym (same_total s.0) ∙ t.sum;
      },
      t.out ∙ order_joined ps l s.0 s.1,
      t.within,
    )

-- ---- the law, for a call

-- where that sentence hands out bytes, the call does
pub handed_given : (file : List ℕ) (kind instance room : ℕ) (b : List ℕ) → HandedOut file kind instance room b → box_bytes file kind instance room ≡ given b
unfolding box_bytes
handed_given file kind instance room b h =
    rw h.well
    (makes_given (mine kind instance (packets file)) h.order h.stated room h.some h.makes (subst (λ (x : List ℕ). length x ≤ room) h.bytes h.fits)
    ∙ ap given (sym h.bytes))

-- where the call hands out bytes, that sentence does
pub given_handed : (file : List ℕ) (kind instance room : ℕ) (b : List ℕ) → box_bytes file kind instance room ≡ given b → HandedOut file kind instance room b
unfolding box_bytes assemble
given_handed file kind instance room b e = go (ending (walk file)) refl e (mine kind instance (packets file)) refl
  where
    make : ending (walk file) ≡ Ok 0 → (ps : List Packet) → mine kind instance (packets file) ≡ ps → assemble room ps ≡ given b → HandedOut file kind instance room b
    make w [] f a = absurd (refused_given a)
    make w (p ∷ r) f a =
        let g = given_makes p r room b a in
        record {
          well = w;
          some = subst (λ (x : List Packet). 0 < length x) (sym f) (omega arith);
          order = g.0;
          stated = p.head;
          makes = subst (λ (x : List Packet). Makes x g.0 p.head) (sym f) g.1;
          bytes = g.2;
          fits = g.3;
        }

    go : (o : Result ℕ Refusal) → ending (walk file) ≡ o → after_walk o (assemble room (mine kind instance (packets file))) ≡ given b
        → (ps : List Packet) → mine kind instance (packets file) ≡ ps → HandedOut file kind instance room b
    go (Err r) w a ps f = absurd (refused_given a)
    go (Ok n) w a ps f = make (w ∙ ap Ok (ended (walk file) n w)) ps f (sym (ap (assemble room) f) ∙ a)

-- two orderings give the same bytes
pub one_answer : (file : List ℕ) (kind instance room : ℕ) (b c : List ℕ) → HandedOut file kind instance room b → HandedOut file kind instance room c → b ≡ c
one_answer file kind instance room b c g h = let e = sym (handed_given file kind instance room b g) ∙ handed_given file kind instance room c h in cc

pub one_order : (ps l m : List Packet) (h g : Head) → Makes ps l h → Makes ps m g → payloads l ≡ payloads m
one_order ps l m h g a b = sym (order_joined ps l a.all a.reads) ∙ order_joined ps m b.all b.reads
