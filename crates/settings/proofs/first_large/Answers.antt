-- `settings::first_large` meets its contract: no entry before i is too large. Assumes nothing.
use borrow.Author.Tests.{le-leb, lt-leb}
use mathlib.Core.Path.{◌≡◌, sym}
use mathlib.Core.Bool.{true, false}
use mathlib.Core.List.{List}
use Prim.Native.Nat.{ℕ, ◌≤◌, ◌<◌}
use lib.ListN.{length, get_or}
use Rattle.laws.proofs.First.{first_start, first_more, first_found, first_end}
use Rattle.merge_rules.specs.Settings.{entry_right}
use Rattle.settings.proofs.first_large.Goals as goal

module _ (most : ℕ) (table : List ℕ) (i : ℕ) where
  right : get_or table i 0 ≤ most → entry_right most table i ≡ true
  unfolding entry_right
  right h = le-leb _ _ h

  large : most < get_or table i 0 → entry_right most table i ≡ false
  unfolding entry_right
  large h = lt-leb _ _ h

pub loop-i-init : goal.loop-i-init
loop-i-init c = first_start _

pub returns-then-most-entry : goal.returns-then-most-entry
returns-then-most-entry c = sym (first_found _ (length c.args.table.now) c.loop-i.i c.loop-i-test.true c.loop-i.invariant (large c.args.most c.args.table.now c.loop-i.i c.if-most-entry.true))

pub loop-i-preserved : goal.loop-i-preserved
loop-i-preserved c = first_more _ c.loop-i.i c.loop-i.invariant (right c.args.most c.args.table.now c.loop-i.i c.if-most-entry.false)

pub returns : goal.returns
returns c = sym (first_end _ _ c.loop-i.i c.loop-i.auto.i-end c.loop-i-test.false c.loop-i.invariant)
