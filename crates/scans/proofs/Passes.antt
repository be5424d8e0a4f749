-- What a turn of the pass over the packets does, as laws on the list of packets that are left. Assumes nothing.
use Prim.Native.Nat.{ℕ, suc, ◌+◌, ◌≤◌}
use mathlib.Core.Path.{◌≡◌, refl, ap, sym, subst, ◌∙◌}
use mathlib.Core.List.{List, [], ◌∷◌}
use mathlib.Core.Bool.{Bool, true, false, cond}
use native.Mathlib.Omega.{arith}
use native.Mathlib.Numerals.{add-one}
use lib.ListN.{length, take, drop}
use lib.Dec.{eqb, leb}
use Rattle.laws.proofs.Choices.{cond_cond, cond_id}
use Rattle.box_rules.specs.declared.Head.{Head}
use Rattle.box_rules.specs.Packets.{Packet, packet, mine_from}
use Rattle.packets.specs.Code.{Met}
use Rattle.box_rules.specs.Walk.{steps_from, walk_from, walk, ending}
use Rattle.box_rules.proofs.Walking.{part_length, walk_on}
use Rattle.box_rules.specs.Numbers.{numbers}
use Rattle.box_rules.specs.Box.{alike, agree, total}
use Rattle.scans.specs.Code.{in_order, rises, mine_of, Scanned, found_more}
use Rattle.scans.specs.declared.Scan.{Scan}

-- counts, totals and tests of what was met and what is left
record Scanning (all rest : List Packet) (h : Head) (n tot : ℕ) (ag ord ris : Bool) (a : ℕ) : Type 0 where
  lengths : n + length rest ≡ length all
  totals : tot + total rest ≡ total all
  agrees : cond ag (agree h rest) false ≡ agree h all
  orders : cond ord (in_order (n + 1) (numbers rest)) false ≡ in_order 1 (numbers all)
  rising : cond ris (rises a (numbers rest)) false ≡ rises 0 (numbers all)

scan_more : {all r : List Packet} {p : Packet} {h : Head} {n tot : ℕ} {ag ord ris : Bool} {a : ℕ} → Scanning all (p ∷ r) h n tot ag ord ris a
    → Scanning all r h (n + 1) (tot + length p.payload) (cond ag (alike h p.head) false) (cond ord (eqb p.head.number (n + 1)) false)
    (cond ris (leb a p.head.number) false) (p.head.number + 1)
unfolding total agree numbers in_order rises
scan_more {all} {r} {p} {h} {n} {tot} {ag} {ord} {ris} {a} s =
    let q : ℕ = p.head.number in
    record {
      lengths = let g = s.lengths in omega arith;
      totals = let g = s.totals in omega arith;
      agrees = cond_cond ag (alike h p.head) (agree h r) ∙ s.agrees;
      orders = ap (λ (k : ℕ). cond (cond ord (eqb q (n + 1)) false) (in_order k (numbers r)) false) (add-one (n + 1))
          ∙ cond_cond ord (eqb q (n + 1)) (in_order (suc (n + 1)) (numbers r)) ∙ s.orders;
      rising = ap (λ (k : ℕ). cond (cond ris (leb a q) false) (rises k (numbers r)) false) (add-one q) ∙ cond_cond ris (leb a q) (rises (suc q) (numbers r)) ∙ s.rising;
    }

-- a pass that has found so much: the packets behind its end are left, and the walk goes well until there
pub record Passing (file : List ℕ) (kind instance : ℕ) (h : Head) (s : Scan) : Type 0 where
  scanning : Scanning (mine_of file kind instance) (mine_from file kind instance s.end) h s.n s.total s.agree s.ordered s.rising s.above
  pub before : (s.n ≤ s.end) × (s.total ≤ s.end)
  same : ending (steps_from file 2) ≡ ending (steps_from file s.end)

module _ (file : List ℕ) (kind instance : ℕ) (h : Head) where
  pub pass_start : Passing file kind instance h (record { n = 0; total = 0; agree = true; ordered = true; rising = true; above = 0; end = 2 })
  pass_start = record { scanning = record { lengths = omega arith; totals = omega arith; agrees = refl; orders = refl; rising = refl }; before = omega arith; same = refl }

  module _ {s : Scan} (p : Passing file kind instance h s) where
    pub pass_turn : {head : Head} {start len next : ℕ} → Met file kind instance s.end head start len next → {s' : Scan} → s' ≡ found_more s h head len next
        → Passing file kind instance h s'
    pass_turn {head} {start} {len} {next} m e =
        let z : length (take len (drop start file)) ≡ len = part_length file start len (omega arith) in
        let g : Scanning (mine_of file kind instance) (packet file head start len ∷ mine_from file kind instance next) h s.n s.total s.agree s.ordered s.rising s.above =
        subst (λ (x : List Packet). Scanning (mine_of file kind instance) x h s.n s.total s.agree s.ordered s.rising s.above) m.list p.scanning in
        rw e (record {
          scanning = rw z at (scan_more g);
          before = omega arith;
          same = p.same ∙ m.same;
        })

    pub pass_end : mine_from file kind instance s.end ≡ [] → Scanned (mine_of file kind instance) h s
    unfolding total agree numbers in_order rises
    pass_end e =
        let g : Scanning (mine_of file kind instance) [] h s.n s.total s.agree s.ordered s.rising s.above =
        subst (λ (x : List Packet). Scanning (mine_of file kind instance) x h s.n s.total s.agree s.ordered s.rising s.above) e p.scanning in
        record {
          lengths = omega (arith, g.lengths);
          totals = omega (arith, g.totals);
          agrees = sym (cond_id s.agree) ∙ g.agrees;
          orders = sym (cond_id s.ordered) ∙ g.orders;
          rising = sym (cond_id s.rising) ∙ g.rising;
        }

    pub pass_ending : ending (walk_from file s.end) ≡ ending (walk file)
    pass_ending = walk_on file s.end p.same
