-- What the loop of `copies::copy_part` keeps: i bytes of the part are pasted.
use lib.Seq.{paste}
use lib.ListN.{drop}
use mathlib.Core.Path.{◌≡◌}
use Rattle.copies.proofs.copy_part.Given as goal

abbrev pub invariant-loop-i : goal.invariant-loop-i
invariant-loop-i l = l.destination ≡ paste l.initial.destination l.to (drop l.start l.file) l.i
