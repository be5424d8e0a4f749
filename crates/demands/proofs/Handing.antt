-- What a call handed out. Assumes nothing.
use mathlib.Core.Path.{ap}
use mathlib.Core.List.{List}
use lib.ListN.{length, drop}
use lib.Seq.{take-append_seam}
use Rattle.answers.specs.Verdict.{given, Meets}
use Rattle.answers.specs.declared.Answer.{Answer}
use Rattle.demands.specs.Two.{Handed}

-- what a call handed out
pub handed : {A : Type 0} {zero : A} {before after : List A} {answer : Answer} (ys : List A) → Meets zero (given ys) before after answer
    → Handed ys after answer
handed {before = before} ys m = (ap (λ (a : Answer). a.number) m.answered, rw (m.answered, m.held) (take-append_seam ys (drop (length ys) before)))
