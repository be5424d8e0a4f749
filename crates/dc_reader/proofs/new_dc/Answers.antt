-- `dc_reader::new_dc` meets its contract: no intermediate leaves 32 bits. Assumes nothing.
use mathlib.Core.Path.{◌≡◌}
use lib.IntN.{pos, ◌+ℤ◌, ◌*ℤ◌}
use mir.Syntax.{w32}
use mir.Val.{SFits, to_z}
use mir.Facts.{to_z_pos}
use Rattle.bit_rules.specs.Digits.{bin}
use Rattle.bit_rules.proofs.Digits.{bin_small}
use Rattle.laws.proofs.Integers.{fit, abs_prod, abs_sum}
use Rattle.plane_rules.specs.Dc.{new_dc}
use native.Mathlib.Omega.{arith}
use borrow.Author.Rules.{rules}
use Rattle.dc_reader.proofs.new_dc.Goals.{Start}
use Rattle.dc_reader.proofs.new_dc.Goals as goal

double : (c : Start) → SFits w32 (pos 2 *ℤ c.args.value)
double c = fit w32 (omega (arith, c.requires, abs_prod (pos 2) c.args.value))

doubled : (c : Start) → SFits w32 (pos 2 *ℤ c.args.value +ℤ pos (bin c.args.bit))
doubled c = fit w32 (omega (arith, c.requires, bin_small c.args.bit, abs_prod (pos 2) c.args.value, abs_sum (pos 2 *ℤ c.args.value) (pos (bin c.args.bit))))

bit-read : (c : Start) → to_z w32 (bin c.args.bit) ≡ pos (bin c.args.bit)
bit-read c = to_z_pos w32 (omega (arith, bin_small c.args.bit))

pub overflow_mul-result : goal.overflow_mul-result
overflow_mul-result c = let here = goal.at.overflow_mul-result c in
    let h = (double here.Start) in search rules

pub overflow_add-result : goal.overflow_add-result
overflow_add-result c = let here = goal.at.overflow_add-result c in
    let h = (double here.Start) in
    let k = (doubled here.Start) in
    search (rules, (bit-read here.Start))

pub returns : goal.returns
unfolding new_dc
returns c = let here = goal.at.returns c in
    let h = (double here.Start) in
    let k = (doubled here.Start) in
    search (rules, (bit-read here.Start))
