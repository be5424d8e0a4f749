-- Practice does not reach live. Assumes nothing.
use mathlib.Core.Path.{◌≡◌, sym, ap, subst, ◌∙◌}
use mathlib.Core.List.{List}
use Prim.Native.Nat.{ℕ}
use lib.ListN.{length}
use Rattle.answers.specs.Verdict.{Verdict, Meets}
use Rattle.answers.specs.declared.Answer.{Answer}
use Rattle.box_rules.specs.Box.{box_bytes}
use Rattle.box_rules.specs.Order.{Reordered}
use Rattle.box_rules.specs.Layout.{Part, laid_out, AllSound, SameFor}
use Rattle.box_rules.proofs.Strangers.{self, same_for}
use Rattle.box_laws.proofs.Reordering.{same_answer}
use Rattle.box_laws.proofs.Written.{laid_out_lem}
use Rattle.demands.specs.Practice.{EndsWell, own, AnsweredAlike, PracticeApart}
use Rattle.demands.proofs.Shams.{one_outcome}

-- ---- the law

-- two files for which the rules give one verdict, whatever the room
pub by_verdict : (kind instance : ℕ) (file file' : List ℕ) → ((room : ℕ) → box_bytes file kind instance room ≡ box_bytes file' kind instance room) → AnsweredAlike kind instance file file'
by_verdict kind instance file file' v before after after' answer answer' m m' =
    let same = one_outcome ℕ 0 (box_bytes file' kind instance (length before)) before after after' answer answer'
    (subst (λ (x : Verdict ℕ). Meets 0 x before after answer) (v (length before)) m) m' in
    record { number = ap (λ (a : Answer). a.number) same.0; place = ap (λ (a : Answer). a.place) same.0; second = ap (λ (a : Answer). a.second) same.0; bytes = same.1 }

module _ (kind instance : ℕ) (file file' : List ℕ) (w : EndsWell file) (w' : EndsWell file') where
  in_any_order : Reordered (own kind instance file) (own kind instance file') → AnsweredAlike kind instance file file'
  in_any_order h = by_verdict kind instance file file' (λ room. same_answer file file' kind instance room (w ∙ sym w') h)

  in_one_order : own kind instance file ≡ own kind instance file' → AnsweredAlike kind instance file file'
  in_one_order e = in_any_order (subst (Reordered (own kind instance file)) e (self (own kind instance file)))

as_written : (kind instance : ℕ) (parts parts' : List Part) (fill fill' : ℕ) (behind behind' : List ℕ) → AllSound parts → AllSound parts'
    → SameFor kind instance parts parts' → AnsweredAlike kind instance (laid_out parts fill behind) (laid_out parts' fill' behind')
as_written kind instance parts parts' fill fill' behind behind' s s' h =
    let a = laid_out_lem parts fill behind s in
    let b = laid_out_lem parts' fill' behind' s' in
    in_any_order kind instance (laid_out parts fill behind) (laid_out parts' fill' behind') a.1 b.1 (rw (a.0, b.0) (same_for kind instance h))

pub practice_apart : PracticeApart
practice_apart = record { strangers = in_one_order; order = in_any_order; written = as_written }
