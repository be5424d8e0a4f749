-- `copies::put_windows` meets its contract: what is left to write here is the whole at the front.
use Rattle.copies.proofs.Windows.{joined_none, joined_start, windows_turn}
use Rattle.copies.proofs.Puts.{write_done}
use mathlib.Core.Path.{refl}
use native.Mathlib.Omega.{arith}
use borrow.Author.Rules.{rules}
use Rattle.copies.proofs.put_windows.Goals as goal

pub loop-passed-init : goal.loop-passed-init
loop-passed-init c = (joined_start _ _ c.requires.1.many _ c.requires.1.fits, omega arith, refl)

pub put_window-to-requires : goal.put_window-to-requires
put_window-to-requires c = let t = windows_turn _ _ _ c.lesser-k.result c.loop-passed.invariant.0 (omega (arith, c.lesser-k.ensures)) in
    record {
      few = omega (arith, c.lesser-k.ensures, c.requires.1.many);
      held = omega (arith, c.lesser-k.ensures);
      once = c.requires.1.once;
      fits = t.0;
    }

pub overflow_add-passed : goal.overflow_add-passed
overflow_add-passed c = omega (arith, c.lesser-k.ensures)

pub loop-passed-smaller : goal.loop-passed-smaller
loop-passed-smaller c = omega (arith, c.lesser-k.ensures, c.requires.0, c.loop-passed.invariant.2)

pub loop-passed-preserved : goal.loop-passed-preserved
loop-passed-preserved c = ((windows_turn _ _ _ c.lesser-k.result c.loop-passed.invariant.0 (omega (arith, c.lesser-k.ensures))).1 _ _ c.put_window-to.ensures.0 c.put_window-to.ensures.1, omega (arith, c.lesser-k.ensures), search rules)

pub returns : goal.returns
returns c = (write_done c.loop-passed.invariant.0 (joined_none _ _ _ (omega arith))).0
