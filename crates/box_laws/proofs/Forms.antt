-- What assembly sees of packets in the long form is what it sees of them in the short one. Assumes nothing.
use Prim.Native.Nat.{ℕ, zero, suc, ◌+◌}
use mathlib.Core.Path.{◌≡◌, refl}
use mathlib.Core.Logic.{⊎_elim}
use mathlib.Core.List.{List, [], ◌∷◌, map}
use native.Mathlib.Omega.{arith}
use lib.ListN.{length, length-map}
use lib.Dec.{eqb}
use borrow.Author.Tests.{eq-eqb, ne_eqb, eqb-true, eqb-false}
use Rattle.laws.proofs.Choices.{either}
use Rattle.box_rules.specs.declared.Head.{Head}
use Rattle.box_rules.specs.Packets.{Packet}
use Rattle.box_rules.specs.Numbers.{numbers}
use Rattle.box_rules.specs.Box.{alike, agree, contents, total, numbered, joined_from, joined, assembled, assemble}
use Rattle.box_rules.specs.Layout.{longer, lengthened}
use Rattle.box_rules.proofs.Lengthened.{AllShort}

eqb_shifted : (a b : ℕ) → eqb (a + 8) (b + 8) ≡ eqb a b
eqb_shifted a b =
    ⊎_elim
    (λ t. rw t (eq-eqb (a + 8) (b + 8) (omega (arith, eqb-true a b t))))
    (λ t. rw t (ne_eqb (a + 8) (b + 8) (λ z. eqb-false a b t (omega arith))))
    (either (eqb a b))

alike_longer : (h g : Head) → h.heading ≡ 8 → g.heading ≡ 8 → alike (longer h) (longer g) ≡ alike h g
unfolding alike longer
alike_longer h g s t = rw (eqb_shifted g.stated h.stated, s, t)

agree_longer : (h : Head) (ps : List Packet) → h.heading ≡ 8 → AllShort ps → agree (longer h) (map lengthened ps) ≡ agree h ps
unfolding agree lengthened
agree_longer h [] s t = refl
agree_longer h (p ∷ r) s t = rw (alike_longer h p.head s t.0, agree_longer h r s t.1)

contents_longer : (h : Head) → h.heading ≡ 8 → contents (longer h) ≡ contents h
unfolding contents longer
contents_longer h s = omega arith

numbers_longer : (ps : List Packet) → numbers (map lengthened ps) ≡ numbers ps
unfolding numbers lengthened longer
numbers_longer [] = refl
numbers_longer (p ∷ r) = rw (numbers_longer r)

total_longer : (ps : List Packet) → total (map lengthened ps) ≡ total ps
unfolding total lengthened
total_longer [] = refl
total_longer (p ∷ r) = rw (total_longer r)

numbered_longer : (q : ℕ) (ps : List Packet) → numbered q (map lengthened ps) ≡ numbered q ps
unfolding numbered lengthened longer
numbered_longer q [] = refl
numbered_longer q (p ∷ r) = rw (numbered_longer q r)

joined_from_longer : (k q : ℕ) (ps : List Packet) → joined_from k q (map lengthened ps) ≡ joined_from k q ps
unfolding joined_from
joined_from_longer zero q ps = refl
joined_from_longer (suc k) q ps = rw (numbered_longer q ps, joined_from_longer k (suc q) ps)

joined_longer : (ps : List Packet) → joined (map lengthened ps) ≡ joined ps
unfolding joined
joined_longer ps = rw (length-map ps lengthened, joined_from_longer (length ps) 1 ps)

-- 4 to 9
pub assemble_longer : (room : ℕ) (ps : List Packet) → AllShort ps → assemble room (map lengthened ps) ≡ assemble room ps
unfolding assemble assembled lengthened
assemble_longer room [] s = refl
assemble_longer room (p ∷ r) s =
    let ps : List Packet = p ∷ r in
    rw (agree_longer p.head ps s.0 s, numbers_longer ps, total_longer ps, contents_longer p.head s.0, joined_longer ps)
