-- What the loop of `curves::make_tones` keeps.
use Rattle.curves.specs.Code.{Tones}
use Rattle.curves.proofs.make_tones.Given as goal

abbrev pub invariant-loop-x : goal.invariant-loop-x
invariant-loop-x l = Tones l.rb l.rh l.x l.tones
