-- From what the passes find to the verdict, case by case. Assumes nothing.
use Prim.Native.Nat.{ℕ, ◌≤◌, ◌<◌}
use mathlib.Core.Path.{◌≡◌, refl, ap, sym, ◌∙◌}
use mathlib.Core.List.{List, []}
use mathlib.Core.Bool.{true, false}
use native.Mathlib.Omega.{arith}
use lib.ListN.{length}
use borrow.Author.Tests.{eq-eqb, ne_eqb, le-leb, lt-leb}
use Rattle.std.specs.Prelude.{Option, Some, None, Ok, Err}
use Rattle.answers.specs.Verdict.{given, refused, refusal}
use Rattle.answers.specs.declared.Refusal.{Refusal}
use Rattle.box_rules.specs.declared.Head.{Head}
use Rattle.box_rules.specs.Walk.{walk, ending}
use Rattle.box_rules.specs.Packets.{Packet}
use Rattle.packets.specs.Code.{Met}
use Rattle.box_rules.proofs.Walking.{mine_all}
use Rattle.box_rules.specs.Numbers.{numbers, numbers_from, first_twice, missing_from, first_missing}
use Rattle.box_laws.proofs.Smallest.{pigeonhole}
use Rattle.scans.specs.declared.Fault.TheVariants.{Fine, Twice, Missing}
use Rattle.box_rules.specs.Box.{agree, contents, total, joined, assembled, assemble, box_bytes}
use Rattle.scans.specs.Code.{in_order, mine_of, fault_of}
use Rattle.box_laws.proofs.Reordering.{numbers_length}
use Rattle.box_laws.proofs.Order.{fine_total}
use Rattle.scans.proofs.Faults.{fault_fine, fault_twice, fault_missing, told_fine, told_twice, told_missing}
use Rattle.scans.proofs.InOrder.{order_twice, order_missing}

-- ---- what is wrong with the numbers: the code's searches, by a walk of the file

module _ (file : List ℕ) (kind instance : ℕ) where
  pub ordered_fine : in_order 1 (numbers (mine_of file kind instance)) ≡ true → Fine ≡ fault_of (numbers (mine_of file kind instance))
  ordered_fine h = sym (fault_fine _ (order_twice (mine_of file kind instance) h) (order_missing (mine_of file kind instance) h))

  missing_of : (n : ℕ) → n ≡ length (mine_of file kind instance) → missing_from n 1 (numbers_from file kind instance 2) ≡ first_missing (numbers (mine_of file kind instance))
  unfolding first_missing numbers_from
  missing_of n e = rw (e, numbers_length (mine_of file kind instance))

  twice_of : first_twice (numbers_from file kind instance 2) ≡ first_twice (numbers (mine_of file kind instance))
  unfolding numbers_from
  twice_of = refl

  -- none of 1 to n is missing, so none stands twice
  pub searched_fine : {n : ℕ} {m : (Option ℕ)} → n ≡ length (mine_of file kind instance) → m ≡ missing_from n 1 (numbers_from file kind instance 2) → m ≡ None
      → Fine ≡ fault_of (numbers (mine_of file kind instance))
  searched_fine {n} e f g =
      let z : first_missing (numbers (mine_of file kind instance)) ≡ None = sym (missing_of n e) ∙ sym f ∙ g in
      sym (fault_fine _ (pigeonhole (numbers (mine_of file kind instance)) z) z)

  pub searched_twice : {t : (Option ℕ)} {q : ℕ} → t ≡ first_twice (numbers_from file kind instance 2) → t ≡ Some q → Twice q ≡ fault_of (numbers (mine_of file kind instance))
  searched_twice f g = sym (fault_twice _ (sym twice_of ∙ sym f ∙ g))

  pub searched_missing : {n : ℕ} {m : (Option ℕ)} {q : ℕ} → n ≡ length (mine_of file kind instance) → m ≡ missing_from n 1 (numbers_from file kind instance 2) → m ≡ Some q
      → first_twice (numbers (mine_of file kind instance)) ≡ None → Missing q ≡ fault_of (numbers (mine_of file kind instance))
  searched_missing {n} e f g t = sym (fault_missing _ t (sym (missing_of n e) ∙ sym f ∙ g))

  pub searched_once : {t : (Option ℕ)} → t ≡ first_twice (numbers_from file kind instance 2) → t ≡ None → first_twice (numbers (mine_of file kind instance)) ≡ None
  searched_once h i = sym twice_of ∙ sym h ∙ i

-- ---- the verdict for a list of packets

module _ (room : ℕ) (h : Head) (ps : List Packet) where
  pub answer_5 : agree h ps ≡ false → assembled room h ps ≡ refused (refusal 5 0)
  unfolding assembled
  answer_5 a = rw a

  pub answer_6 : {q : ℕ} → agree h ps ≡ true → fault_of (numbers ps) ≡ Twice q → assembled room h ps ≡ refused (refusal 6 q)
  unfolding assembled
  answer_6 a f = rw (a, told_twice (numbers ps) f)

  pub answer_7 : {q : ℕ} → agree h ps ≡ true → fault_of (numbers ps) ≡ Missing q → assembled room h ps ≡ refused (refusal 7 q)
  unfolding assembled
  answer_7 a f = let t = told_missing (numbers ps) f in rw (a, t.0, t.1)

  module _ (a : agree h ps ≡ true) (f : fault_of (numbers ps) ≡ Fine) where
    pub answer_8 : (total ps ≡ contents h → ⊥) → assembled room h ps ≡ refused (refusal 8 (total ps))
    unfolding assembled
    answer_8 n = let t = told_fine (numbers ps) f in rw (a, t.0, t.1, ne_eqb (total ps) (contents h) n)

    pub answer_size : length (joined ps) ≡ total ps
    answer_size = let t = told_fine (numbers ps) f in fine_total ps t.0 t.1

    pub answer_9 : total ps ≡ contents h → room < total ps → assembled room h ps ≡ refused (refusal 9 (total ps))
    unfolding assembled
    answer_9 e l =
        let t = told_fine (numbers ps) f in
        rw (a, t.0, t.1, eq-eqb (total ps) (contents h) e, answer_size, lt-leb (total ps) room l)

    pub answer_0 : total ps ≡ contents h → total ps ≤ room → assembled room h ps ≡ given (joined ps)
    unfolding assembled
    answer_0 e l =
        let t = told_fine (numbers ps) f in
        rw (a, t.0, t.1, eq-eqb (total ps) (contents h) e, le-leb (length (joined ps)) room (omega (arith, answer_size)))

-- ---- the verdict for a file

module _ (file : List ℕ) (kind instance room : ℕ) where
  pub file_refused : {r : Refusal} → ending (walk file) ≡ Err r → box_bytes file kind instance room ≡ refused r
  unfolding box_bytes
  file_refused e = rw e

  file_packets : {count : ℕ} → ending (walk file) ≡ Ok count → box_bytes file kind instance room ≡ assemble room (mine_of file kind instance)
  unfolding box_bytes
  file_packets e = rw e (ap (assemble room) (mine_all file kind instance _ e))

  pub file_none : {count : ℕ} → ending (walk file) ≡ Ok count → mine_of file kind instance ≡ [] → box_bytes file kind instance room ≡ refused (refusal 4 0)
  unfolding assemble
  file_none e n = file_packets e ∙ rw n

  pub file_some : {count : ℕ} → ending (walk file) ≡ Ok count → {head : Head} {start len next : ℕ} → Met file kind instance 2 head start len next
      → box_bytes file kind instance room ≡ assembled room head (mine_of file kind instance)
  unfolding assemble
  file_some e m = file_packets e ∙ rw m.list
