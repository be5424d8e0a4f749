-- The payloads of a window of numbers, one after the other: what the places say of them, and a turn of each loop. Assumes nothing.
use Prim.Native.Nat.{ℕ, zero, suc, ◌+◌, ◌-◌, ◌≤◌, ◌<◌}
use mathlib.Core.Path.{◌≡◌, refl, ap, ap₂, sym, subst, ◌∙◌}
use mathlib.Core.Logic.{⊎_elim}
use mathlib.Core.List.{List, [], ◌∷◌, ◌++◌, append-nil, append_assoc}
use native.Mathlib.Omega.{arith}
use native.Mathlib.Numerals.{add-one}
use lib.ListN.{length, get_or, take, drop}
use lib.Dec.{eqb}
use borrow.Author.Tests.{eq-eqb}
use Rattle.laws.proofs.Choices.{either}
use Rattle.box_rules.specs.declared.Head.{Head}
use Rattle.box_rules.specs.Packets.{Packet, packet, mine_from}
use Rattle.packets.specs.Code.{Met}
use Rattle.box_rules.specs.Numbers.{numbers, numbers_from, count}
use Rattle.numbers.proofs.Meeting.{numbers_met, numbers_gone}
use Rattle.box_rules.proofs.Counts.{numbers_append, count_append, count_here}
use Rattle.windows.specs.Code.{Stands, PlaceOf, Located}
use Rattle.box_rules.specs.Box.{numbered, joined_from, joined}
use Rattle.scans.specs.Code.{mine_of}
use Rattle.copies.specs.Code.{put_at, Windowed}
use Rattle.box_laws.proofs.Order.{none_numbered, each_once}
use Rattle.box_rules.proofs.Walking.{part_length}
use Rattle.copies.proofs.Puts.{Writing, write_start, write_room, write_more}
use Rattle.scans.proofs.Faults.{told_fine}

-- ---- the payload of one number

numbered_append : (q : ℕ) (a b : List Packet) → numbered q (a ++ b) ≡ numbered q a ++ numbered q b
unfolding numbered
numbered_append q [] b = refl
numbered_append q (p ∷ a) b =
    ⊎_elim
    (λ t. rw t (ap (λ (x : List ℕ). p.payload ++ x) (numbered_append q a b) ∙ sym (append_assoc p.payload (numbered q a) (numbered q b))))
    (λ t. rw t (numbered_append q a b))
    (either (eqb p.head.number q))

-- of a list in which q stands once at most, the packet numbered q has all that q has
only_payload : (q : ℕ) (a : List Packet) (p : Packet) (r : List Packet) → p.head.number ≡ q → count q (numbers (a ++ (p ∷ r))) ≤ 1 → numbered q (a ++ (p ∷ r)) ≡ p.payload
unfolding numbered numbers
only_payload q a p r e h =
    let s : count q (numbers a) + suc (count q (numbers r)) ≤ 1 =
    omega (arith, ap (count q) (numbers_append a (p ∷ r)), count_append q (numbers a) (p.head.number ∷ numbers r), count_here p.head.number q (numbers r) e) in
    numbered_append q a (p ∷ r)
    ∙ rw (eq-eqb p.head.number q e, none_numbered a q (omega arith), none_numbered r q (omega arith)) (append-nil p.payload)

cons_head : {x y : ℕ} {a b : List ℕ} → ◌≡◌ {A = List ℕ} (x ∷ a) (y ∷ b) → x ≡ y
cons_head e = cc

-- the packet met from a place has the number's payload
stands_payload : {file : List ℕ} {kind instance q place : ℕ} → Stands file kind instance q place → count q (numbers (mine_of file kind instance)) ≤ 1
    → {head : Head} {start len next : ℕ} → Met file kind instance place head start len next → numbered q (mine_of file kind instance) ≡ take len (drop start file)
stands_payload {file} {kind} {instance} {q} {place} s h {head} {start} {len} {next} m =
    let p : Packet = packet file head start len in
    let e : mine_of file kind instance ≡ s.before ++ (p ∷ mine_from file kind instance next) = s.split ∙ ap (λ (x : List Packet). s.before ++ x) m.list in
    ap (numbered q) e
    ∙ only_payload q s.before p (mine_from file kind instance next) (cons_head (sym (numbers_met m) ∙ s.first)) (subst (λ (x : List Packet). count q (numbers x) ≤ 1) e h)

-- ---- windows of joined payloads

joined_split : (a b q : ℕ) (ps : List Packet) → joined_from (a + b) q ps ≡ joined_from a q ps ++ joined_from b (q + a) ps
unfolding joined_from
joined_split zero b q ps = let e : 0 + b ≡ b = omega arith in let f : q + 0 ≡ q = omega arith in rw (e, f)
joined_split (suc a) b q ps =
    let e : suc a + b ≡ suc (a + b) = omega arith in
    let f : q + suc a ≡ suc q + a = omega arith in
    rw (e, f) (ap (λ (x : List ℕ). numbered q ps ++ x) (joined_split a b (suc q) ps) ∙ sym (append_assoc (numbered q ps) (joined_from a (suc q) ps) (joined_from b (suc q + a) ps)))

pub joined_none : (ps : List Packet) (k q : ℕ) → k ≡ 0 → joined_from k q ps ≡ []
unfolding joined_from
joined_none ps zero q h = refl
joined_none ps (suc k) q h = absurd (omega arith)

pub joined_start : (ps : List Packet) (n : ℕ) → n ≡ length ps → (d : List ℕ) → length (joined ps) ≤ length d → Writing d 0 (joined_from (n - 0) (0 + 1) ps) d 0 (joined ps)
unfolding joined
joined_start ps n e d h = let f : n - 0 ≡ n = omega arith in rw (f, e) (write_start d 0 (joined_from (length ps) 1 ps) (omega arith))

-- a turn over windows: k of the n - passed numbers that are left
pub windows_turn : (ps : List Packet) (n passed k : ℕ) {d d₀ all : List ℕ} {end to : ℕ} → Writing d end (joined_from (n - passed) (passed + 1) ps) d₀ to all → k ≤ n - passed
    → (end + length (joined_from k (passed + 1) ps) ≤ length d)
    × ((d' : List ℕ) (r : ℕ) → d' ≡ put_at d end (joined_from k (passed + 1) ps) → r ≡ end + length (joined_from k (passed + 1) ps)
    → Writing d' r (joined_from (n - (passed + k)) (passed + k + 1) ps) d₀ to all)
windows_turn ps n passed k {d} {d₀} {all} {end} {to} w h =
    let a : List ℕ = joined_from k (passed + 1) ps in
    let b : List ℕ = joined_from (n - (passed + k)) (passed + k + 1) ps in
    let z : n - passed ≡ k + (n - (passed + k)) = omega arith in
    let y : passed + 1 + k ≡ passed + k + 1 = omega arith in
    let e : joined_from (n - passed) (passed + 1) ps ≡ a ++ b =
    ap (λ (l : ℕ). joined_from l (passed + 1) ps) z ∙ joined_split k (n - (passed + k)) (passed + 1) ps ∙ ap (λ (l : ℕ). a ++ joined_from (n - (passed + k)) l ps) y in
    (write_room w a b e, λ d' r f g. subst (λ (j : ℕ). Writing d' j b d₀ to all) (sym g) (write_more w a b e f refl))

-- a turn in a window: the number passed + 1 + i
pub window_start : (ps : List Packet) (passed k to : ℕ) (d : List ℕ) → to + length (joined_from k (passed + 1) ps) ≤ length d
    → Writing d to (joined_from (k - 0) (passed + 1 + 0) ps) d to (joined_from k (passed + 1) ps)
window_start ps passed k to d h =
    let e : k - 0 ≡ k = omega arith in let f : passed + 1 + 0 ≡ passed + 1 = omega arith in
    rw (e, f) (write_start d to (joined_from k (passed + 1) ps) h)

joined_next : (ps : List Packet) (k i q : ℕ) → i < k → joined_from (k - i) q ps ≡ numbered q ps ++ joined_from (k - (i + 1)) (q + 1) ps
unfolding joined_from
joined_next ps k i q h = let e : k - i ≡ suc (k - (i + 1)) = omega arith in rw (e, add-one q)

module _ {file : List ℕ} {kind instance passed k held room to : ℕ} {places : List ℕ} (g : Located file kind instance passed places)
    (w : Windowed (mine_of file kind instance) passed k held to room) (i : ℕ) (l : i < k) (h : i < length places) where
  placed : PlaceOf file kind instance (passed + 1 + i) (get_or places i 0)
  placed = g.each i h

  fine : count (passed + 1 + i) (numbers (mine_of file kind instance)) ≡ 1
  fine = let t = told_fine (numbers (mine_of file kind instance)) w.once in each_once (mine_of file kind instance) t.0 t.1 (passed + 1 + i) (omega arith) (omega (arith, w.few))

  pub place_stands : Stands file kind instance (passed + 1 + i) (get_or places i 0)
  unfolding numbers_from
  place_stands = placed.there (positive (get_or places i 0) (λ e. omega (arith, placed.gone e, fine)))
    where
      positive : (n : ℕ) → (n ≡ 0 → ⊥) → 0 < n
      positive n h = omega (arith, h)

  pub place_there : mine_from file kind instance (get_or places i 0) ≡ [] → ⊥
  place_there e = let z = sym (numbers_gone file kind instance (get_or places i 0) e) ∙ place_stands.first in let y : ◌≡◌ {A = ℕ} 0 1 = cc in omega arith

  pub window_turn : {d d₀ all : List ℕ} {end to' : ℕ} → Writing d end (joined_from (k - i) (passed + 1 + i) (mine_of file kind instance)) d₀ to' all
      → {head : Head} {start len next : ℕ} → Met file kind instance (get_or places i 0) head start len next
      → (end + len ≤ length d)
      × ((d' : List ℕ) → d' ≡ put_at d end (take len (drop start file)) → Writing d' (end + len) (joined_from (k - (i + 1)) (passed + 1 + (i + 1)) (mine_of file kind instance)) d₀ to' all)
  window_turn {d} {d₀} {all} {end} {to'} v {head} {start} {len} {next} m =
      let ps : List Packet = mine_of file kind instance in
      let a : List ℕ = take len (drop start file) in
      let b : List ℕ = joined_from (k - (i + 1)) (passed + 1 + (i + 1)) ps in
      let z : length a ≡ len = part_length file start len (omega (arith, m.reach, m.inside)) in
      let y : passed + 1 + i + 1 ≡ passed + 1 + (i + 1) = omega arith in
      let e : joined_from (k - i) (passed + 1 + i) ps ≡ a ++ b =
      joined_next ps k i (passed + 1 + i) l
      ∙ ap₂ (λ (x : List ℕ) (j : ℕ). x ++ joined_from (k - (i + 1)) j ps) (stands_payload place_stands (omega (arith, fine)) m) y in
      (omega (arith, write_room v a b e, z), λ d' f. write_more v a b e f z)
