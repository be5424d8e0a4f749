-- `previews::write_owed` meets its contract: behind p numbers the destination holds p of the block's. Assumes nothing.
use borrow.Author.Rules.{rules}
use mathlib.Core.Path.{◌≡◌, sym, ◌∙◌}
use Prim.Native.Nat.{◌/◌, ◌%◌, ◌<◌}
use native.Mathlib.Omega.{arith}
use lib.ListN.{length}
use Rattle.laws.proofs.Fill.{front_start, front_turn}
use Rattle.previews.specs.Code.{unfolded}
use Rattle.previews.proofs.Tables.{fold_small}
use Rattle.previews.proofs.write_owed.Invariants.{place_of}
use Rattle.previews.proofs.write_owed.Goals as goal

pub loop-p-init : goal.loop-p-init
loop-p-init c = sym (front_start c.args.destination.now (place_of c.args.owed.now))

pub overflow_mul-i : goal.overflow_mul-i
overflow_mul-i c = let h : c.fold.result < 4 = rw c.fold.ensures (fold_small (c.loop-p.p / 8) (omega arith)) in
    search rules

pub overflow_add-i : goal.overflow_add-i
overflow_add-i c = let h : c.fold.result < 4 = rw c.fold.ensures (fold_small (c.loop-p.p / 8) (omega arith)) in let l : c.fold-in-loop-p.result < 4 = rw c.fold-in-loop-p.ensures (fold_small (c.loop-p.p % 8) (omega arith)) in search rules

pub offset_bounds-owed-i : goal.offset_bounds-owed-i
offset_bounds-owed-i c = let h : c.fold.result < 4 = rw c.fold.ensures (fold_small (c.loop-p.p / 8) (omega arith)) in let l : c.fold-in-loop-p.result < 4 = rw c.fold-in-loop-p.ensures (fold_small (c.loop-p.p % 8) (omega arith)) in search rules

pub bounds-owed-i : goal.bounds-owed-i
bounds-owed-i c = let h : c.fold.result < 4 = rw c.fold.ensures (fold_small (c.loop-p.p / 8) (omega arith)) in
    let l : c.fold-in-loop-p.result < 4 = rw c.fold-in-loop-p.ensures (fold_small (c.loop-p.p % 8) (omega arith)) in
    omega (arith, c.requires.0)

pub loop-p-preserved : goal.loop-p-preserved
loop-p-preserved c = let room : c.loop-p.p < length c.args.destination.now = omega (arith, c.requires.1) in
    rw (c.fold-in-loop-p.ensures, c.fold.ensures, c.loop-p.invariant) (front_turn c.args.destination.now (place_of c.args.owed.now) c.loop-p.p room)

pub returns : goal.returns
unfolding unfolded
returns c = let e : c.loop-p.p ≡ 64 = omega arith in
    c.loop-p.invariant ∙ rw e
