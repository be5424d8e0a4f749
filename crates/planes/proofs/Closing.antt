-- How the blocks that the code read come to the verdict on the plane. Assumes nothing.
use mathlib.Core.Path.{◌≡◌, refl, sym, ap, ◌∙◌}
use mathlib.Core.Bool.{Bool, true, false, cond}
use mathlib.Core.List.{List, ◌++◌}
use Prim.Native.Nat.{ℕ, ◌≤◌}
use lib.IntN.{ℤ, pos}
use lib.ListN.{length, take, drop, take-append-drop}
use lib.Seq.{length-take-le}
use Rattle.answers.specs.Verdict.{given, refused, refusal, outcome_of, leaves, Tried}
use Rattle.answers.specs.declared.Refusal.{Refusal}
use Rattle.answers.proofs.Laws.{tried_refused}
use Rattle.std.specs.Prelude.{Result, Ok, Err}
use Rattle.bit_rules.specs.Source.{Source, only_padding}
use Rattle.bits.specs.Code.{bits_in}
use Rattle.bits.specs.declared.BitReader.{BitReader}
use Rattle.plane_rules.specs.Plane.{Plane, read, closed}
use Rattle.planes.specs.Code.{plane_of, Ran, Closes}

-- a plane that was closed well holds its values in front
kept_values : (values before : List ℤ) (s : Source) (count : ℕ) → outcome_of (closed (read values s)) ≡ Ok count → leaves (pos 0) (closed (read values s)) before ≡ values ++ drop (length values) before
unfolding closed
kept_values values before s count = go (only_padding s)
  where
    go : (t : Bool) → outcome_of (cond t (given values) (refused (refusal 18 s.seen))) ≡ Ok count
        → leaves (pos 0) (cond t (given values) (refused (refusal 18 s.seen))) before ≡ values ++ drop (length values) before
    go true e = refl
    go false e = cc

module _ {n : ℕ} {plane : Plane} {before after : List ℤ} {r : BitReader} where
  pub closing : {o : (Result ℕ Refusal)} → Ran n plane before after r (Ok tt) → n ≤ length after → Closes n r o → Tried (pos 0) (closed plane) before after o
  unfolding plane_of
  closing {o} a h c =
      let l : length (take n after) ≡ n = length-take-le n after h in
      let e : o ≡ outcome_of (closed (read (take n after) (bits_in r))) = c.told (take n after) l in
      rw (sym a.same) (record {
        came = e;
        held = λ count g.
            sym (kept_values (take n after) before (bits_in r) count (sym e ∙ g)
            ∙ ap (λ (k : ℕ). take n after ++ drop k before) l
            ∙ ap (λ (d : List ℤ). take n after ++ d) (sym a.kept)
            ∙ take-append-drop n after);
      })

  -- a block that was refused
  pub stopping : {f : Refusal} → Ran n plane before after r (Err f) → Tried (pos 0) (closed plane) before after (Err f)
  unfolding plane_of closed
  stopping a = tried_refused refl (rw (sym a.same))
