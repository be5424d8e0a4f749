-- The loop over DC blocks: what is left to read, behind the values read so far, is the whole. Assumes nothing.
use mathlib.Core.Path.{◌≡◌, refl, sym, ◌∙◌}
use mathlib.Core.Bool.{Bool}
use mathlib.Core.List.{List, [], ◌∷◌, append-nil}
use Prim.Native.Nat.{ℕ, suc, ◌+◌, ◌<◌}
use native.Mathlib.Numerals.{add-one}
use native.Mathlib.Omega.{arith}
use lib.IntN.{ℤ, pos}
use lib.ListN.{length, get_or, take, drop, set, drop_of_length-le}
use lib.Seq.{drop-cons, drop-set-lt, take-suc-set}
use Rattle.laws.proofs.Parts.{drop_later}
use Rattle.answers.specs.Verdict.{refusal_at}
use Rattle.bit_rules.specs.Source.{got, stopped, stop, take_bit}
use Rattle.bits.specs.Code.{bits_in}
use Rattle.bits.specs.declared.BitReader.{BitReader}
use Rattle.plane_rules.specs.Plane.{Plane, onto}
use Rattle.plane_rules.specs.Dc.{new_dc, dc_blocks}
use Rattle.planes.specs.Code.{plane_of, Ran}
use Rattle.std.specs.Prelude.{Ok, Err}
use Rattle.planes.proofs.Onto.{onto_none, onto_onto}

-- behind i blocks
pub record Now (values before now : List ℤ) (whole : Plane) (r : BitReader) (i : ℕ) : Type 0 where
  pub rest : drop i now ≡ drop i before
  pub same : onto (take i now) (dc_blocks i (drop i values) (bits_in r)) ≡ whole

pub now_first : {values before : List ℤ} {r : BitReader} → Now values before before (dc_blocks 0 values (bits_in r)) r 0
now_first = record { rest = refl; same = onto_none _ }

module _ {values before now : List ℤ} {whole : Plane} {r : BitReader} {i : ℕ} (a : Now values before now whole r i) where
  pub now_end : i ≡ length values → Ran (length values) whole before now r (Ok tt)
  unfolding plane_of dc_blocks onto
  now_end e = rw (sym e) (record {
    same = rw (sym (append-nil (take i now))) (rw (drop_of_length-le values {i = i} (omega arith)) at a.same);
    kept = a.rest;
  })

  module _ (h : i < length values) where
    next : drop i values ≡ get_or values i (pos 0) ∷ drop (suc i) values
    next = drop-cons values i (pos 0) h

    pub now_stopped : {number offset : ℕ} {q : BitReader} → stopped (stop number offset) ≡ take_bit (bits_in r) → Ran (length values) whole before now q (Err (refusal_at number i offset))
    unfolding plane_of dc_blocks onto
    now_stopped e = record {
      same = rw (next, sym e) at a.same;
      kept = drop_later i (length values) (omega arith) now before a.rest;
    }

    pub now_turn : {bit : Bool} {q : BitReader} {v : ℤ} → got bit (bits_in q) ≡ take_bit (bits_in r) → v ≡ new_dc (get_or values i (pos 0)) bit → i < length now → Now values before (set now i v) whole q (i + 1)
    unfolding dc_blocks
    now_turn {bit} {q} {v} e n l = record {
      rest = drop-set-lt (i + 1) now i v (omega arith) ∙ drop_later i (i + 1) (omega arith) now before a.rest;
      same =
          rw (add-one i, take-suc-set now i v l, n)
          (sym (onto_onto (take i now) (new_dc (get_or values i (pos 0)) bit ∷ []) (dc_blocks (suc i) (drop (suc i) values) (bits_in q))) ∙ (rw (next, sym e) at a.same));
    }
