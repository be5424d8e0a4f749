-- `copies::copy_part` meets its contract: i bytes of the part are pasted.
use Rattle.copies.proofs.Puts.{paste_put, copy_turn}
use lib.Seq.{paste, paste-zero}
use lib.ListN.{drop, length-drop}
use Prim.Native.Nat.{ℕ}
use mathlib.Core.Path.{◌≡◌, ap, ◌∙◌}
use native.Mathlib.Omega.{arith}
use Rattle.copies.proofs.copy_part.Goals as goal

pub loop-i-init : goal.loop-i-init
loop-i-init c = paste-zero c.args.destination.now c.args.to (drop c.args.start c.args.file.now)

pub loop-i-preserved : goal.loop-i-preserved
loop-i-preserved c = copy_turn c.args.destination.now c.loop-i.destination c.args.file.now c.args.to c.args.start c.loop-i.i c.loop-i.invariant (omega arith) (omega arith)

pub returns : goal.returns
returns c = let e : c.loop-i.i ≡ c.args.len = omega arith in
    c.loop-i.invariant
    ∙ ap (λ (k : ℕ). paste c.args.destination.now c.args.to (drop c.args.start c.args.file.now) k) e
    ∙ paste_put c.args.destination.now (drop c.args.start c.args.file.now) c.args.to c.args.len (simp length-drop (omega arith))
