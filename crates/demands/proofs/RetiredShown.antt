-- Level 4: what follows from the law. Assumes nothing.
use mathlib.Core.Path.{◌≡◌, refl, sym, ap, subst, ◌∙◌}
use mathlib.Core.List.{List}
use Rattle.std.specs.Prelude.{Some}
use Rattle.std.proofs.lemmas.Option.{none-some, same_Some}
use Prim.Native.Nat.{ℕ, ◌≤◌}
use lib.ListN.{length}
use borrow.Author.Tests.{ne_eqb, le-leb}
use Rattle.laws.specs.Index.{every}
use Rattle.answers.specs.Verdict.{Verdict, given, refused, refusal, Meets}
use Rattle.answers.specs.declared.Answer.{Answer}
use Rattle.plane_rules.specs.Plane.{the_rules}
use Rattle.plane_rules.specs.Dc.{write_dc}
use Rattle.plane_rules.specs.AcWrite.{write_ac}
use Rattle.demands.specs.Two.{Handed}
use Rattle.demands.specs.Three.{Both, level_of, together}
use Rattle.demands.specs.Retired.{but_level_four, LevelFour, NotWritten, FourShown}
use Rattle.demands.proofs.Handing.{handed}

-- ---- what follows from the law

-- a call whose verdict is 28 at place 0
not_written : {before after : List ℕ} {answer : Answer} (v : Verdict ℕ) → v ≡ refused (refusal 28 0) → Meets 0 v before after answer → NotWritten before after answer
not_written {before} {after} {answer} v e m = let r = subst (λ (w : Verdict ℕ). Meets 0 w before after answer) e m in rw (r.answered, r.held) (record { number = refl; place = refl; second = refl; zeros = refl })

-- a call whose verdict is these values
handed_by : {A : Type 0} {zero : A} {before after : List A} {answer : Answer} (v : Verdict A) (ys : List A) → v ≡ given ys → Meets zero v before after answer → Handed ys after answer
handed_by {A} {zero} {before} {after} {answer} v ys e m = handed ys (subst (λ (w : Verdict A). Meets zero w before after answer) e m)

-- a plane that is accepted is accepted by both calls
each_given : (v w : Verdict ℕ) (bytes : Both ℕ) → together v w ≡ Some bytes → (v ≡ given bytes.dc) × (w ≡ given bytes.ac)
each_given (given dc) (given ac) bytes e =
    let same : record { dc = dc; ac = ac } ≡ bytes = same_Some _ bytes e in
    (ap (λ (b : Both ℕ). given b.dc) same, ap (λ (b : Both ℕ). given b.ac) same)
each_given (given dc) (refused r) bytes e = absurd (none-some bytes e)
each_given (refused r) w bytes e = absurd (none-some bytes e)

four : (blocks : ℕ) (rest : Verdict ℕ) → blocks ≤ 1024 → but_level_four 4 blocks rest ≡ refused (refusal 28 0)
unfolding every
four blocks rest few = rw (le-leb blocks 1024 few)

other : (plane blocks : ℕ) (rest : Verdict ℕ) → (plane ≡ 4 → ⊥) → but_level_four plane blocks rest ≡ rest
unfolding every
other plane blocks rest n = rw (ne_eqb plane 4 n)

pub shown : LevelFour → FourShown
shown law = record {
  dc_refused = λ blocks values before after answer few m. not_written _ (law.dc_written 4 blocks values (length before) ∙ four blocks _ few) m;
  ac_refused = λ blocks codes values before after answer few m. not_written _ (law.ac_written 4 blocks codes values (length before) ∙ four blocks _ few) m;
  dc_as_ruled = λ plane blocks values before after answer n m.
      subst (λ (v : Verdict ℕ). Meets 0 v before after answer) (law.dc_written plane blocks values (length before) ∙ other plane blocks _ n) m;
  ac_as_ruled = λ plane blocks codes values before after answer n m.
      subst (λ (v : Verdict ℕ). Meets 0 v before after answer) (law.ac_written plane blocks codes values (length before) ∙ other plane blocks _ n) m;
  dc_read = λ blocks room values bytes before after answer w fits m. handed_by _ values (law.dc_stored the_rules 4 blocks values room (length before) bytes w fits) m;
  ac_read = λ blocks room codes values bytes before after answer w fits m. handed_by _ values (law.ac_stored the_rules 4 blocks codes values room (length before) bytes w fits) m;
  ours = λ k n full lent demanded j low high own.
      let e = each_given _ _ (demanded.plane j) (sym (law.ours j n (lent j) (level_of k full j) own) ∙ demanded.written j low high) in
      record {
        dc = λ before after answer l m. handed_by _ (demanded.plane j).dc (ap (write_dc j n (level_of k full j).dc) l ∙ e.0) m;
        ac = λ before after answer l m. handed_by _ (demanded.plane j).ac (ap (write_ac j n (lent j).table (level_of k full j).ac) l ∙ e.1) m;
      };
}
