-- What the loop of `copies::put_window` keeps.
use Rattle.copies.proofs.Puts.{Writing}
use Rattle.box_rules.specs.Box.{joined_from}
use Rattle.scans.specs.Code.{mine_of}
use Prim.Native.Nat.{◌+◌, ◌-◌}
use Rattle.copies.proofs.put_window.Given as goal

abbrev pub invariant-loop-i : goal.invariant-loop-i
invariant-loop-i l = Writing l.destination l.end (joined_from (l.k - l.i) (l.passed + 1 + l.i) (mine_of l.sought.file.now l.sought.kind l.sought.instance)) l.initial.destination l.to (joined_from l.k (l.passed + 1) (mine_of l.sought.file.now l.sought.kind l.sought.instance))
