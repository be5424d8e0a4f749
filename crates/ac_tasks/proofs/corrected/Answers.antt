-- `ac_tasks::corrected` meets its contract: no intermediate leaves 32 bits. Assumes nothing.
use mathlib.Core.Path.{◌≡◌}
use lib.IntN.{ℤ, pos, neg_ℤ, ◌+ℤ◌, ◌-ℤ◌, ◌*ℤ◌}
use mir.Syntax.{w32}
use mir.Val.{SFits, to_z}
use mir.Facts.{to_z_pos, to_z-of_z}
use Rattle.bit_rules.specs.Digits.{bin}
use Rattle.bit_rules.proofs.Digits.{bin_small}
use Rattle.laws.proofs.Integers.{fit, abs_prod, abs_sum, abs_neg}
use Rattle.ac_tasks.proofs.Numbers.{down, upward}
use native.Mathlib.Omega.{arith}
use borrow.Author.Rules.{rules}
use Rattle.ac_tasks.proofs.corrected.Goals.{Start}
use Rattle.ac_tasks.proofs.corrected.Goals as goal

double : (c : Start) → SFits w32 (pos 2 *ℤ c.args.value)
double c = fit w32 (omega (arith, c.requires, abs_prod (pos 2) c.args.value))

bit-read : (c : Start) → to_z w32 (bin c.args.bit) ≡ pos (bin c.args.bit)
bit-read c = to_z_pos w32 (omega (arith, bin_small c.args.bit))

less : (c : Start) → SFits w32 (pos 2 *ℤ c.args.value -ℤ pos (bin c.args.bit))
less c = let a : ℤ = pos 2 *ℤ c.args.value in let b : ℤ = pos (bin c.args.bit) in fit w32 (omega (arith, c.requires, bin_small c.args.bit, abs_prod (pos 2) c.args.value, abs_sum a (neg_ℤ b), abs_neg b))

more : (c : Start) → SFits w32 (pos 2 *ℤ c.args.value +ℤ pos (bin c.args.bit))
more c = fit w32 (omega (arith, c.requires, bin_small c.args.bit, abs_prod (pos 2) c.args.value, abs_sum (pos 2 *ℤ c.args.value) (pos (bin c.args.bit))))

pub overflow_mul-result : goal.overflow_mul-result
overflow_mul-result c = let here = goal.at.overflow_mul-result c in
    let h = (double here.Start) in search rules

pub overflow_sub-result : goal.overflow_sub-result
overflow_sub-result c = let here = goal.at.overflow_sub-result c in
    rw (to_z-of_z c.ranges.value, to_z-of_z (double here.Start), (bit-read here.Start)) (less here.Start)

pub returns-then-value-lt0 : goal.returns-then-value-lt0
returns-then-value-lt0 c = let here = goal.at.returns-then-value-lt0 c in
    rw (to_z-of_z c.ranges.value, to_z-of_z (double here.Start), (bit-read here.Start), to_z-of_z (less here.Start)) (down c.args.value _ (rw (to_z-of_z c.ranges.value) at c.if-value-lt0.true))

pub overflow_mul-result-2 : goal.overflow_mul-result-2
overflow_mul-result-2 c = let here = goal.at.overflow_mul-result-2 c in
    let h = (double here.Start) in search rules

pub overflow_add-result : goal.overflow_add-result
overflow_add-result c = let here = goal.at.overflow_add-result c in
    rw (to_z-of_z c.ranges.value, to_z-of_z (double here.Start), (bit-read here.Start)) (more here.Start)

pub returns : goal.returns
returns c = let here = goal.at.returns c in
    rw (to_z-of_z c.ranges.value, to_z-of_z (double here.Start), (bit-read here.Start), to_z-of_z (more here.Start)) (upward c.args.value _ (rw (to_z-of_z c.ranges.value) at c.if-value-lt0.false))
