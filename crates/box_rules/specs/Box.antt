-- N5 and P5 to P12: the answer for one type and instance.
use Rattle.answers.specs.declared.Refusal.{Refusal}
use Rattle.std.specs.Prelude.{ℕ, zero, suc, ◌+◌, ◌-◌, List, [], ◌∷◌, ◌++◌, Bool, true, false, cond, length, eqb, Result, Ok, Err}
use Rattle.answers.specs.Verdict.{Verdict, refused, refusal, need, unless, fitting}
use Rattle.box_rules.specs.declared.Head.{Head}
use Rattle.box_rules.specs.Walk.{walk, ending}
use Rattle.box_rules.specs.Packets.{Packet, packets, mine}
use Rattle.box_rules.specs.Numbers.{numbers, first_twice, first_missing}

-- P6: "Packets of one box must agree on the length and on which form they use"
unfoldable pub alike : Head → Head → Bool
alike h g = cond (eqb g.stated h.stated) (eqb g.heading h.heading) false

-- P6: "all with one LBox"
unfoldable pub agree : Head → List Packet → Bool
agree h [] = true
agree h (p ∷ r) = cond (alike h p.head) (agree h r) false

-- P2, P9, P12: "the stated length less the box head in place of LBox-8"
unfoldable pub contents : Head → ℕ
contents h = h.stated - h.heading

-- P9: "payload total"
unfoldable pub total : List Packet → ℕ
total [] = 0
total (p ∷ r) = length p.payload + total r

-- P10: the payloads of the packets numbered q
unfoldable pub numbered : ℕ → List Packet → List ℕ
numbered q [] = []
numbered q (p ∷ r) = cond (eqb p.head.number q) (p.payload ++ numbered q r) (numbered q r)

-- P10: of those numbered q, q + 1, .., k numbers in all
unfoldable pub joined_from : ℕ → ℕ → List Packet → List ℕ
joined_from zero q ps = []
joined_from (suc k) q ps = numbered q ps ++ joined_from k (suc q) ps

-- P10: of those numbered 1 to n: "File order doesn't matter."
unfoldable pub joined : List Packet → List ℕ
joined ps = joined_from (length ps) 1 ps

-- N5, P6, P9, P12: 5, "packets disagree on LBox", which "also covers mixed forms"; 6, "a sequence number stands twice"; 7, "a sequence number is missing";
-- 8, "payload total is not LBox-8"; 9, "destination too short"
unfoldable pub assembled : ℕ → Head → List Packet → Verdict ℕ
assembled room h ps =
    need (agree h ps) 5 0
    (unless 6 (first_twice (numbers ps))
    (unless 7 (first_missing (numbers ps))
    (need (eqb (total ps) (contents h)) 8 (total ps)
    (fitting room (joined ps)))))

-- N5, P5: 4, "no packet of this type and instance"
unfoldable pub assemble : ℕ → List Packet → Verdict ℕ
assemble room [] = refused (refusal 4 0)
assemble room (p ∷ r) = assembled room p.head (p ∷ r)

-- N5: "1 to 3 over the whole walk"
abbrev pub after_walk : Result ℕ Refusal → Verdict ℕ → Verdict ℕ
after_walk (Ok count) next = next
after_walk (Err r) next = refused r

-- N5: the answer to a call, for every file, type, instance and length of the destination
unfoldable pub box_bytes : List ℕ → ℕ → ℕ → ℕ → Verdict ℕ
box_bytes file kind instance room = after_walk (ending (walk file)) (assemble room (mine kind instance (packets file)))
