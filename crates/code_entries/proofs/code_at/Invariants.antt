-- What the loop of `code_entries::code_at` keeps.
use Rattle.code_entries.proofs.Assigning.{Assigning}
use Rattle.code_entries.proofs.code_at.Given as goal

abbrev pub invariant-loop-l : goal.invariant-loop-l
invariant-loop-l l = Assigning l.counts l.place l.first l.k l.l
