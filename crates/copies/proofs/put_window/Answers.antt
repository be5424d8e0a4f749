-- `copies::put_window` meets its contract: what is left to write here is the window at the start.
use Rattle.packets.specs.Code.{Met}
use Rattle.packets.proofs.Meeting.{met, gone}
use Rattle.box_rules.specs.declared.Head.{Head}
use Rattle.box_rules.specs.Box.{joined_from}
use Rattle.scans.specs.Code.{mine_of}
use Rattle.copies.specs.Code.{put_at}
use Rattle.copies.proofs.Windows.{joined_none, window_start, place_there, window_turn}
use Rattle.copies.proofs.Puts.{Writing, write_done}
use lib.ListN.{length, get_or, take, drop}
use Prim.Native.Nat.{ℕ, ◌+◌, ◌-◌, ◌≤◌}
use mathlib.Core.Path.{◌≡◌}
use mathlib.Core.List.{List}
use native.Mathlib.Omega.{arith}
use borrow.Author.Rules.{rules}
use Rattle.copies.proofs.put_window.Goals.{In-loop-i, in-Some, in_default+in-Some-next_from}
use Rattle.copies.proofs.put_window.Goals as goal

pub loop-i-init : goal.loop-i-init
loop-i-init c = window_start _ _ _ _ _ c.requires.fits

-- what the packet at the i-th place brings: room for its payload, and the rest of the window behind it
turn : (c : In-loop-i) → {head : Head} {start len next : ℕ} → Met c.args.sought.file.now c.args.sought.kind c.args.sought.instance (get_or c.locate.new.places c.loop-i.i 0) head start len next
    → (c.loop-i.end + len ≤ length c.loop-i.destination)
    × ((d : List ℕ) → d ≡ put_at c.loop-i.destination c.loop-i.end (take len (drop start c.args.sought.file.now))
    → Writing d (c.loop-i.end + len) (joined_from (c.args.k - (c.loop-i.i + 1)) (c.args.passed + 1 + (c.loop-i.i + 1)) (mine_of c.args.sought.file.now c.args.sought.kind c.args.sought.instance)) c.args.destination.now c.args.to
    (joined_from c.args.k (c.args.passed + 1) (mine_of c.args.sought.file.now c.args.sought.kind c.args.sought.instance)))
turn c = window_turn c.locate.ensures c.requires c.loop-i.i c.loop-i-test.true (search rules) c.loop-i.invariant

pub returns-in_default-next_from : goal.returns-in_default-next_from
returns-in_default-next_from c = absurd (place_there c.locate.ensures c.requires c.loop-i.i c.loop-i-test.true (search rules) (gone _ _ _ _ c.next_from.ensures c.in_default-next_from.is))

pub copy_part-requires : goal.copy_part-requires
copy_part-requires c = let m = c.in-Some.ensures in (omega arith, (turn (goal.at.copy_part-requires c).In-loop-i m).0)

pub overflow_add-end : goal.overflow_add-end
overflow_add-end c = let m = c.in-Some.ensures in omega (arith, (turn (goal.at.overflow_add-end c).In-loop-i m).0, c.loop-i.invariant.size)

pub copy_part-requires-in-Some-next_from : goal.copy_part-requires-in-Some-next_from
copy_part-requires-in-Some-next_from c = let m = met _ _ _ _ c.next_from.ensures c.in-Some-next_from.is in (omega arith, (turn (goal.at.copy_part-requires-in-Some-next_from c).In-loop-i m).0)

pub overflow_add-end-in-Some-next_from : goal.overflow_add-end-in-Some-next_from
overflow_add-end-in-Some-next_from c = let m = met _ _ _ _ c.next_from.ensures c.in-Some-next_from.is in
    omega (arith, c.well_formed, (turn (goal.at.overflow_add-end-in-Some-next_from c).In-loop-i m).0, c.loop-i.invariant.size)

pub loop-i-preserved : goal.loop-i-preserved
loop-i-preserved c = let here = (goal.at.loop-i-preserved c).In-loop-i in elim c.match-here.branch [
  | in-Some w ↦ rw (w.destination-is, w.end-is) ((turn here w.in-Some.ensures).1 _ w.copy_part.ensures)
  | in_default+in-Some-next_from w ↦ rw (w.destination-is, w.end-is) ((turn here (met _ _ _ _ w.next_from.ensures w.in-Some-next_from.is)).1 _ w.copy_part-in-Some-next_from.ensures)
]

pub returns : goal.returns
returns c = write_done c.loop-i.invariant (joined_none _ _ _ (omega arith))
