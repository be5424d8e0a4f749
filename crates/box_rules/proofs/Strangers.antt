-- Strangers, fill and the order of segments do not change which packets a type and instance has. Assumes nothing.
use Prim.Native.Nat.{ℕ}
use mathlib.Core.Path.{◌≡◌, refl}
use mathlib.Core.Logic.{⊎_elim}
use mathlib.Core.List.{List, [], ◌∷◌}
use mathlib.Core.Bool.{Bool, true, false, cond}
use borrow.Author.Tests.{eq-eqb, eqb-true}
use lib.Dec.{eqb}
use Rattle.laws.proofs.Choices.{either}
use Rattle.box_rules.specs.declared.Head.{Head}
use Rattle.box_rules.specs.Packets.{Packet, is_mine, mine}
use Rattle.box_rules.specs.Layout.{Part, packed, other, packets_of, Stranger, SameFor, empty, shared, here, there, exchanged, through}
use Rattle.box_rules.specs.Order.{Reordered, none, keep, swap, both}

pub self : (a : List Packet) → Reordered a a
self [] = none
self (p ∷ r) = keep (self r)

module _ (kind instance : ℕ) where
  -- another type, or another instance
  not_mine : (h : Head) → (h.kind ≡ kind → h.instance ≡ instance → ⊥) → is_mine kind instance h ≡ false
  unfolding is_mine
  not_mine h s =
      ⊎_elim
      (λ k. rw k (⊎_elim (λ i. absurd (s (eqb-true h.kind kind k) (eqb-true h.instance instance i))) (λ i. i) (either (eqb h.instance instance))))
      (λ k. rw k)
      (either (eqb h.kind kind))

  -- this type and instance
  pub is_mine_lem : (h : Head) → h.kind ≡ kind → h.instance ≡ instance → is_mine kind instance h ≡ true
  unfolding is_mine
  is_mine_lem h k i = rw (eq-eqb h.kind kind k, eq-eqb h.instance instance i)

  -- the packets of this type and instance among the segments of a file
  abbrev own : List Part → List Packet
  own parts = mine kind instance (packets_of parts)

  pub past : (x : Part) (a : List Part) → Stranger kind instance x → own (x ∷ a) ≡ own a
  unfolding mine packets_of
  past (packed fill p) a s = rw (not_mine p.head s)
  past (other fill marker contents) a s = refl

  swap_own : (x y : Bool) (p q : Packet) (a : List Packet) → Reordered (cond x (p ∷ cond y (q ∷ a) a) (cond y (q ∷ a) a)) (cond y (q ∷ cond x (p ∷ a) a) (cond x (p ∷ a) a))
  swap_own true true p q a = swap
  swap_own true false p q a = self (p ∷ a)
  swap_own false true p q a = self (q ∷ a)
  swap_own false false p q a = self a

  either_way : (x y : Part) (a : List Part) → Reordered (own (x ∷ (y ∷ a))) (own (y ∷ (x ∷ a)))
  unfolding mine packets_of
  either_way (packed fill p) (packed fill' q) a = swap_own (is_mine kind instance p.head) (is_mine kind instance q.head) p q (own a)
  either_way (packed fill p) (other fill' marker contents) a = self (own (packed fill p ∷ a))
  either_way (other fill marker contents) (packed fill' p) a = self (own (packed fill' p ∷ a))
  either_way (other fill marker contents) (other fill' marker' contents') a = self (own a)

  keep_own : (x : Bool) (p : Packet) {a b : List Packet} → Reordered a b → Reordered (cond x (p ∷ a) a) (cond x (p ∷ b) b)
  keep_own true p h = keep h
  keep_own false p h = h

  -- where two files are the same for a type and instance, its packets in the one are an ordering of those in the other
  pub same_for : {a b : List Part} → SameFor kind instance a b → Reordered (mine kind instance (packets_of a)) (mine kind instance (packets_of b))
  unfolding mine packets_of
  same_for empty = none
  same_for (shared {p} fill fill' h) = keep_own (is_mine kind instance p.head) p (same_for h)
  same_for (here {x} {a} s h) = rw (past x a s) (same_for h)
  same_for (there {x} {b} s h) = rw (past x b s) (same_for h)
  same_for (exchanged {x} {y} {a}) = either_way x y a
  same_for (through g h) = both (same_for g) (same_for h)
