-- By which rows a box is refused, and at which places. Assumes nothing.
use mathlib.Core.Path.{◌≡◌, refl, sym, ap, subst, ◌∙◌}
use mathlib.Core.Logic.{◌⊎◌, inl, inr}
use mathlib.Core.Bool.{Bool, true, false}
use mathlib.Core.List.{List, [], ◌∷◌}
use Prim.Native.Nat.{ℕ, zero, suc, ◌+◌, ◌≤◌, ◌<◌}
use native.Mathlib.Omega.{arith}
use lib.Dec.{eqb, leb, ltb}
use lib.ListN.{length, get_or, drop}
use Rattle.std.specs.Prelude.{Some, Result, Ok, Err}
use Rattle.laws.proofs.Choices.{by_test, true_false}
use Rattle.answers.specs.Verdict.{refusal_at, refusal}
use Rattle.answers.specs.declared.Refusal.{Refusal}
use Rattle.answers.proofs.Laws.{never_given}
use Rattle.box_rules.specs.Walk.{be16, be32, head_at, long_head_at, held_at, ones, barred, tagged, packet_at, whole_at, sized_at, marked_at, step_at, steps_from, begins, walk, ending}
use Rattle.box_rules.specs.declared.Head.{Head}
use Rattle.box_rules.specs.declared.Step.{Step}
use Rattle.box_rules.specs.declared.Step.TheVariants.{End, Skip, Meet, Broken}
use Rattle.box_rules.specs.Packets.{Packet, packets, mine}
use Rattle.box_rules.proofs.Walking.{walk_begun, walk_not, forward_skip, forward_meet, ending_end, ending_broken, ending_skip, ending_meet}
use Rattle.box_rules.specs.Numbers.{numbers, first_twice, first_missing, missing_from}
use Rattle.box_laws.proofs.Smallest.{smallest_twice, twice_is, smallest_missing, missing_is}
use Rattle.box_rules.specs.Box.{agree, contents, total, joined, assembled, assemble, after_walk, box_bytes}
use Rattle.box_laws.proofs.Order.{fine_total}
use Rattle.demands.specs.One.{Rows, row, rows, ◌then◌, failing, Reached, first, skipped, met, broken_at, twice_at, missing_at, not_filled, packet_rows, box_rows}
use Rattle.demands.proofs.Rows.{Judged, passed, told, need_judged, failing_judged, unless_judged, fitting_judged}

-- ---- a step is broken by 2 or 3, at its own position

abbrev BrokenIs : ℕ → Step → Type 0
BrokenIs at End = Unit {0}
BrokenIs at (Skip next) = Unit {0}
BrokenIs at (Meet head start len next) = Unit {0}
BrokenIs at (Broken r) = (r ≡ refusal 2 at) ⊎ (r ≡ refusal 3 at)

module _ (file : List ℕ) (at : ℕ) where
  broken_held : (head : Head) (start len next : ℕ) → BrokenIs at (held_at at head start len next)
  broken_held head start len next = by_test (BrokenIs at) (ltb head.stated head.heading) (λ t. inr refl) (λ t. tt)

  broken_packet : (m len : ℕ) → BrokenIs at (packet_at file at m len)
  unfolding packet_at
  broken_packet m len =
      by_test (BrokenIs at) (ltb len 18) (λ t. inr refl) λ t.
      by_test (BrokenIs at) (eqb (be32 file (m + 11)) 1)
      (λ u. by_test (BrokenIs at) (ltb len 26) (λ v. inr refl) (λ v. broken_held (long_head_at file m) _ _ _))
      (λ u. broken_held (head_at file m) _ _ _)

  broken_whole : (m len : ℕ) → BrokenIs at (whole_at file at m len)
  unfolding whole_at
  broken_whole m len =
      by_test (BrokenIs at) (eqb (get_or file m 0) 235) (λ t. by_test (BrokenIs at) (tagged file m len) (λ u. broken_packet m len) (λ u. tt)) (λ t. tt)

  broken_sized : (m : ℕ) → BrokenIs at (sized_at file at m)
  unfolding sized_at
  broken_sized m =
      by_test (BrokenIs at) (ltb (length file) (m + 3)) (λ t. inl refl) λ t.
      by_test (BrokenIs at) (ltb (be16 file (m + 1)) 2) (λ u. inl refl) λ u.
      by_test (BrokenIs at) (ltb (length file) (m + 1 + be16 file (m + 1))) (λ v. inl refl) λ v.
      broken_whole m (be16 file (m + 1))

  broken_step : BrokenIs at (step_at file at)
  unfolding step_at marked_at
  broken_step =
      let m : ℕ = at + ones (drop at file) in
      by_test (BrokenIs at) (leb m at) (λ t. inl refl) λ t.
      by_test (BrokenIs at) (leb (length file) m) (λ u. inl refl) λ u.
      by_test (BrokenIs at) (eqb (get_or file m 0) 218) (λ v. tt) λ v.
      by_test (BrokenIs at) (barred (get_or file m 0)) (λ w. inl refl) λ w.
      broken_sized m

-- ---- the walk

refused_one : {r : Refusal} {n p q : ℕ} → ◌≡◌ {A = Result ℕ Refusal} (Err r) (Err (refusal_at n p q)) → (n ≡ r.number) × (p ≡ r.place) × (q ≡ r.second)
refused_one {r} {n} {p} {q} e = let same : r ≡ refusal_at n p q = cc in rw same (refl, refl, refl)

module _ (file : List ℕ) where
  abbrev walk_rows : Rows
  walk_rows = rows (2 ∷ 3 ∷ []) (broken_at file)

  broken_row : (at : ℕ) → Reached file at → (f : Refusal) → step_at file at ≡ Broken f → (f ≡ refusal 2 at) ⊎ (f ≡ refusal 3 at) → walk_rows f.number f.place f.second
  broken_row at reached f q (inl h) = subst (λ (x : Refusal). walk_rows x.number x.place x.second) (sym h) (tt, (reached, q ∙ ap Broken h, refl))
  broken_row at reached f q (inr h) = subst (λ (x : Refusal). walk_rows x.number x.place x.second) (sym h) (tt, (reached, q ∙ ap Broken h, refl))

  -- one step, and what is known of the walk behind it
  step_rows : (at : ℕ) → Reached file at → (r : Refusal) → ending (steps_from file at) ≡ Err r
      → ((next : ℕ) → at < next → next ≤ length file → Reached file next → ending (steps_from file next) ≡ Err r → walk_rows r.number r.place r.second)
      → (s : Step) → step_at file at ≡ s → walk_rows r.number r.place r.second
  step_rows at reached r e onward End q = absurd (never_given (sym e ∙ ending_end file at q))
  step_rows at reached r e onward (Broken f) q =
      let w : Err f ≡ Err r = sym (ending_broken file at q) ∙ e in
      let same : f ≡ r = cc in
      subst (λ (x : Refusal). walk_rows x.number x.place x.second) same (broken_row at reached f q (subst (BrokenIs at) q (broken_step file at)))
  step_rows at reached r e onward (Skip next) q = let h = forward_skip file at q in onward next h.0 h.1 (skipped reached q) (sym (ending_skip file at q) ∙ e)
  step_rows at reached r e onward (Meet head start len next) q =
      let h = forward_meet file at q in
      onward next (omega (arith, h.0, h.1)) h.2 (met reached q) (sym (ending_meet file at q) ∙ e)

  walk_rows_lem : (k at : ℕ) → length file ≤ at + k → Reached file at → (r : Refusal) → ending (steps_from file at) ≡ Err r → walk_rows r.number r.place r.second
  walk_rows_lem zero at l reached r e = step_rows at reached r e (λ next h m g q. absurd (omega arith)) (step_at file at) refl
  walk_rows_lem (suc k) at l reached r e = step_rows at reached r e (λ next h m g q. walk_rows_lem k next (omega arith) g r q) (step_at file at) refl

  -- the walk from where it comes by ends as the whole does
  ends_alike : {at : ℕ} → Reached file at → ending (steps_from file at) ≡ ending (steps_from file 2)
  ends_alike first = refl
  ends_alike (skipped {at} h q) = sym (ending_skip file at q) ∙ ends_alike h
  ends_alike (met {at} h q) = sym (ending_meet file at q) ∙ ends_alike h

  rows_walk : (n p q : ℕ) → walk_rows n p q → ending (steps_from file 2) ≡ Err (refusal_at n p q)
  rows_walk n p q h = sym (ends_alike h.1.0) ∙ (ending_broken file p h.1.1 ∙ rw h.1.2)

-- ---- the packets of one box

twice_both : (ns : List ℕ) (q : ℕ) → twice_at ns q → first_twice ns ≡ Some q
twice_both ns q h = twice_is ns q h.0 h.1

missing_both : (ns : List ℕ) (q : ℕ) → missing_at ns q → missing_from (length ns) 1 ns ≡ Some q
missing_both ns q h = missing_is ns (length ns) 1 q h.0 h.1 h.2 h.3

packets_judged : (ps : List Packet) (room : ℕ) → Judged (packet_rows ps room) room (assemble room ps)
unfolding assemble assembled packet_rows first_missing
packets_judged [] room = told (refusal 4 0) (refl, (refl, refl), refl) (λ m q s h. (h.0, h.1.0, h.2))
packets_judged (p ∷ ps) room =
    passed (λ m q s h. cons_nil h.1.1)
    (failing_judged (agree p.head (p ∷ ps)) 5 _ λ e.
    unless_judged (twice_at (numbers (p ∷ ps))) 6 (first_twice (numbers (p ∷ ps))) _ (smallest_twice (numbers (p ∷ ps))) (twice_both (numbers (p ∷ ps))) λ t.
    unless_judged (missing_at (numbers (p ∷ ps))) 7 (missing_from (length (numbers (p ∷ ps))) 1 (numbers (p ∷ ps))) _
    (smallest_missing (numbers (p ∷ ps)) (length (numbers (p ∷ ps))) 1) (missing_both (numbers (p ∷ ps))) λ m.
    need_judged (not_filled (p ∷ ps)) (eqb (total (p ∷ ps)) (contents p.head)) 8 (total (p ∷ ps)) _ (λ f. (refl, f)) (λ q h. (h.1, h.0)) λ f.
    fitting_judged room (total (p ∷ ps)) (joined (p ∷ ps)) (fine_total (p ∷ ps) t m))
  where
    cons_nil : p ∷ ps ≡ [] → ⊥
    cons_nil e = let z : suc (length ps) ≡ 0 = ap length e in omega arith

pub box_judged : (file : List ℕ) (kind instance room : ℕ) → Judged (box_rows file kind instance room) room (box_bytes file kind instance room)
unfolding box_bytes box_rows
box_judged file kind instance room = start (begins file) refl
  where
    walked : begins file ≡ true → (o : Result ℕ Refusal) → ending (steps_from file 2) ≡ o
        → Judged (rows (2 ∷ 3 ∷ []) (broken_at file) then packet_rows (mine kind instance (packets file)) room) room (after_walk o (assemble room (mine kind instance (packets file))))
    walked b (Ok n) e = passed (λ m q s h. never_given (sym (rows_walk file m q s h) ∙ e)) (packets_judged (mine kind instance (packets file)) room)
    walked b (Err r) e = told r (walk_rows_lem file (length file) 2 (omega arith) first r e) (λ m q s h. refused_one (sym e ∙ rows_walk file m q s h))

    start : (b : Bool) → begins file ≡ b → Judged (row 1 (failing (begins file)) then rows (2 ∷ 3 ∷ []) (broken_at file) then packet_rows (mine kind instance (packets file)) room) room (after_walk (ending (walk file)) (assemble room (mine kind instance (packets file))))
    start true b =
        passed (λ m q s h. true_false (sym b ∙ h.1.1))
        (rw (walk_begun file b) (walked b (ending (steps_from file 2)) refl))
    start false b = rw (walk_not file b) (told (refusal 1 0) (refl, (refl, b), refl) (λ m q s h. (h.0, h.1.0, h.2)))
