-- `ac_steps::rest` meets its contract: what the block came to from `from` on carries to position i. Assumes nothing.
use mathlib.Core.Path.{◌≡◌, refl, sym, ap, ◌∙◌}
use native.Mathlib.Omega.{arith}
use lib.IntN.{pos}
use lib.ListN.{length, get_or}
use mir.Syntax.{w32}
use mir.Val.{to_z, of_z}
use borrow.Author.Rules.{rules}
use Rattle.std.proofs.lemmas.Result.{err_from_is_err_and}
use Rattle.laws.proofs.Integers.{back}
use Rattle.bits.specs.Code.{read_as}
use Rattle.ac_steps.proofs.Positions.{carries_zero, carries_stopped, carries_fixed}
use Rattle.ac_steps.proofs.rest.Goals.{then-v-eq0, else-v-eq0+in_ok-destination}
use Rattle.ac_steps.proofs.rest.Goals as goal

pub returns-in_err-destination : goal.returns-in_err-destination
unfolding read_as
returns-in_err-destination c = let p = err_from_is_err_and c.from_residual.result c.from_residual.ensures.1 in
    let old : to_z w32 (of_z w32 (get_or c.args.values.now c.loop-i.i (pos 0))) ≡ get_or c.args.values.now c.loop-i.i (pos 0) = back w32 (get_or c.args.values.now c.loop-i.i (pos 0)) (search rules) in
    rw (p.1, p.2) (carries_stopped c.loop-i.invariant c.loop-i-test.true (λ e. c.if-v-eq0.false (ap (of_z w32) e)) (rw old at (sym c.in_err-destination.ensures.taken)), refl)

pub loop-i-preserved : goal.loop-i-preserved
unfolding read_as
loop-i-preserved c = let old : to_z w32 (of_z w32 (get_or c.args.values.now c.loop-i.i (pos 0))) ≡ get_or c.args.values.now c.loop-i.i (pos 0) = back w32 (get_or c.args.values.now c.loop-i.i (pos 0)) (search rules) in
    elim c.if-v-eq0.branch [
      | then-v-eq0 w ↦ rw (w.destination-is, w.here-is) (carries_zero c.loop-i.invariant c.loop-i-test.true (sym old ∙ ap (to_z w32) w.if-v-eq0.true))
      | else-v-eq0+in_ok-destination w ↦ rw (w.destination-is, w.here-is)
          (carries_fixed c.loop-i.invariant c.loop-i-test.true (λ e. w.if-v-eq0.false (ap (of_z w32) e))
          (rw (back w32 w.in_ok-destination.field-0 (search rules)) (rw old at (sym w.in_ok-destination.ensures.taken))))
    ]

pub returns : goal.returns
returns c = let e : c.loop-i.i ≡ length c.args.values.now = omega arith in rw (← e) (c.loop-i.invariant, λ h. h, λ h. absurd (omega arith), tt)
