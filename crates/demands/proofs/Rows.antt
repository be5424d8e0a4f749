-- How the order of refusals comes to rows of the table, both ways, and a call's promise to demand 1. Assumes nothing.
use mathlib.Core.Path.{◌≡◌, refl, sym, ap, subst, ◌∙◌}
use mathlib.Core.Logic.{◌⊎◌, inl, inr, ⊎_elim}
use mathlib.Core.Bool.{Bool, true, false}
use mathlib.Core.List.{List, ◌++◌}
use Prim.Native.Nat.{ℕ, ◌≤◌}
use native.Mathlib.Omega.{arith}
use lib.Dec.{leb}
use lib.ListN.{length, drop, length-append, length-drop}
use lib.Seq.{drop-append_seam}
use borrow.Author.Tests.{leb-true, leb-false}
use Rattle.laws.specs.First.{first_fail}
use Rattle.std.specs.Prelude.{Option, Some, None}
use Rattle.laws.proofs.First.{first_at, first_found, all_pass}
use Rattle.laws.proofs.Choices.{true_false, at_one, at_nothing}
use Rattle.answers.specs.Verdict.{Verdict, given, refused, refusal_at, refusal, need, unless, fitting, Meets}
use Rattle.answers.specs.declared.Refusal.{Refusal}
use Rattle.answers.specs.declared.Answer.{Answer}
use Rattle.answers.proofs.Given.{refused_given}
use Rattle.demands.specs.One.{Rows, row, ◌then◌, failing, needed, First, Succeeded, Turned, Answered}

-- a verdict hands out what there is room for, or refuses by a row
pub data Keeps {A : Type 0} (table : Rows) (room : ℕ) : Verdict A → Type 0 where
  gives : {ys : List A} → length ys ≤ room → Keeps table room (given ys)
  refuses : {r : Refusal} → table r.number r.place r.second → Keeps table room (refused r)

-- and whatever the rows tell is refused so
pub record Judged {A : Type 0} (table : Rows) (room : ℕ) (v : Verdict A) : Type 0 where
  pub kept : Keeps table room v
  pub only : (n p q : ℕ) → table n p q → v ≡ refused (refusal_at n p q)

later_kept : {A : Type 0} {first later : Rows} {room : ℕ} {v : Verdict A} → ((m q s : ℕ) → first m q s → ⊥) → Keeps later room v → Keeps (first then later) room v
later_kept none (gives h) = gives h
later_kept none (refuses t) = refuses (inr (none, t))

module _ {A : Type 0} {first later : Rows} {room : ℕ} where
  -- a row that does not tell leaves the verdict to those behind it
  pub passed : {v : Verdict A} → ((m q s : ℕ) → first m q s → ⊥) → Judged later room v → Judged (first then later) room v
  passed none j = record {
    kept = later_kept none j.kept;
    only = λ n p q. ⊎_elim (λ h. absurd (none n p q h)) (λ h. j.only n p q h.1);
  }

  -- one that tells is the verdict
  pub told : (r : Refusal) → first r.number r.place r.second → ((m q s : ℕ) → first m q s → (m ≡ r.number) × (q ≡ r.place) × (s ≡ r.second))
      → Judged {A = A} (first then later) room (refused r)
  told r h one = record {
    kept = refuses (inl h);
    only = λ n p q. ⊎_elim (λ k. let e = one n p q k in rw (e.0, e.1, e.2)) (λ k. absurd (k.0 r.number r.place r.second h));
  }

-- the last row
pub told_last : {A : Type 0} {table : Rows} {room : ℕ} (r : Refusal) → table r.number r.place r.second
    → ((m q s : ℕ) → table m q s → (m ≡ r.number) × (q ≡ r.place) × (s ≡ r.second)) → Judged {A = A} table room (refused r)
told_last r h one = record { kept = refuses h; only = λ n p q k. let e = one n p q k in rw (e.0, e.1, e.2) }

module _ {A : Type 0} {later : Rows} {room : ℕ} where
  -- a test: its row tells exactly where the test fails
  pub need_judged : (means : ℕ → Type 0) (ok : Bool) (number place : ℕ) (next : Verdict A) → (ok ≡ false → means place) → ((q : ℕ) → means q → (ok ≡ false) × (q ≡ place))
      → (ok ≡ true → Judged later room next) → Judged (row number means then later) room (need ok number place next)
  need_judged means true number place next f g j = passed (λ m q s h. true_false (g q h.1).0) (j refl)
  need_judged means false number place next f g j = told (refusal number place) (refl, f refl, refl) (λ m q s h. (h.0, (g q h.1).1, h.2))

  pub failing_judged : (ok : Bool) (number : ℕ) (next : Verdict A) → (ok ≡ true → Judged later room next) → Judged (row number (failing ok) then later) room (need ok number 0 next)
  failing_judged ok number next = need_judged (failing ok) ok number 0 next (λ e. (refl, e)) (λ q h. (h.1, h.0))

  -- a search: its row tells exactly what was found
  pub unless_judged : (means : ℕ → Type 0) (number : ℕ) (found : Option ℕ) (next : Verdict A) → ((i : ℕ) → found ≡ Some i → means i) → ((q : ℕ) → means q → found ≡ Some q)
      → (found ≡ None → Judged later room next) → Judged (row number means then later) room (unless number found next)
  unless_judged means number (Some i) next f g j = told (refusal number i) (refl, f i refl, refl) (λ m q s h. (h.0, sym (at_one (g q h.1)), h.2))
  unless_judged means number None next f g j = passed (λ m q s h. at_nothing (sym (g q h.1))) (j refl)

-- "length needed", behind all other rows
pub fitting_judged : {A : Type 0} (room n : ℕ) (ys : List A) → length ys ≡ n → Judged (row 9 (needed n room)) room (fitting room ys)
fitting_judged {A} room n ys e = go (leb (length ys) room) refl
  where
    go : (b : Bool) → leb (length ys) room ≡ b → Judged (row 9 (needed n room)) room (need b 9 (length ys) (given ys))
    go true t = record {
      kept = gives (leb-true (length ys) room t);
      only = λ m p s h. absurd (let l : length ys ≤ room = leb-true (length ys) room t in let q = h.1.0 in let k = h.1.1 in omega arith);
    }
    go false t = told_last (refusal 9 (length ys)) (refl, (e, leb-false (length ys) room t), refl) (λ m q s h. (h.0, h.1.0 ∙ sym e, h.2))

pub first_index : (n : ℕ) (test : ℕ → Bool) (i : ℕ) → first_fail n test ≡ Some i → First n test i
first_index n test i e = let r = first_at n test e in record { below = r.0; fails = r.1; before = r.2 }

pub index_first : (n : ℕ) (test : ℕ → Bool) (i : ℕ) → First n test i → first_fail n test ≡ Some i
index_first n test i h = first_found test n i h.below (all_pass i test h.before) h.fails

-- no row has the number 0

pub record NoZero (table : Rows) : Type 0 where
  pub never : (p q : ℕ) → table 0 p q → ⊥

-- ---- a call's promise

success : {A : Type 0} (before ys : List A) → length ys ≤ length before → Succeeded before (ys ++ drop (length ys) before) (record { number = 0; place = length ys; second = 0 })
success before ys h = record {
  well = refl;
  second = refl;
  written = h;
  long = let e = length-drop (length ys) before in length-append ys (drop (length ys) before) ∙ omega arith;
  past = drop-append_seam ys (drop (length ys) before);
}

module _ {A : Type 0} (zero : A) {table : Rows} (none : NoZero table) (before : List A) where
  pub answered : (v : Verdict A) → Judged table (length before) v → (after : List A) (answer : Answer) → Meets zero v before after answer → Answered zero table before after answer
  answered v j after answer m = record { outcome = go v j.kept m; only = λ n p q t. one v (j.only n p q t) m }
    where
      go : (v : Verdict A) → Keeps table (length before) v → Meets zero v before after answer → Succeeded before after answer ⊎ Turned zero table before after answer
      go (given ys) (gives h) m = inl (rw (m.answered, m.held) (success before ys h))
      go (refused r) (refuses t) m =
          inr (record { line = rw m.answered t; told = λ e. none.never r.place r.second (subst (λ (n : ℕ). table n r.place r.second) (sym (ap (λ (a : Answer). a.number) m.answered) ∙ e) t); zeros = m.held })

      one : (v : Verdict A) {n p q : ℕ} → v ≡ refused (refusal_at n p q) → Meets zero v before after answer → (answer.number ≡ n) × (answer.place ≡ p) × (answer.second ≡ q)
      one (given ys) e m = absurd (refused_given (sym e))
      one (refused r) {n} {p} {q} e m = let same : r ≡ refusal_at n p q = cc in rw (m.answered, same) (refl, refl, refl)
