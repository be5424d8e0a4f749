-- `fills::fill_straight` meets its contract, by the curve itself or by a table of it. Assumes nothing.
use mathlib.Core.Path.{◌∙◌, ap}
use mathlib.Core.List.{◌++◌}
use Prim.Native.Nat.{ℕ, ◌+◌, ◌^◌, ◌≤◌}
use native.Mathlib.Omega.{arith}
use lib.ListN.{length, drop}
use lib.Pow.{pow_mono}
use Rattle.merge_rules.specs.Settings.{samples}
use Rattle.merge_rules.specs.Picture.{merged_picture}
use Rattle.fills.proofs.Tones.{straight_other, lent_there, tones_there, tones_alike}
use Rattle.fills.proofs.fill_straight.Goals as goal

-- the array is as long as the largest table
array_long : (rh : ℕ) → rh ≤ 4 → 2 ^ (8 + rh) ≤ 4096
array_long rh h = pow_mono {i = 8 + rh} {j = 12} (omega arith)

pub overflow_add-s : goal.overflow_add-s
overflow_add-s c = omega (arith, c.requires.passed.0.ranged.rh_small)

pub power-requires : goal.power-requires
power-requires c = omega (arith, c.requires.passed.0.ranged.rh_small)

pub fill_by-requires : goal.fill_by-requires
fill_by-requires c = record { lending = lent_there c.requires.passed.0 c.requires.passed.1 straight_other; pixels_in_bounds = c.requires.pixels_in_bounds }

pub make_tones-requires : goal.make_tones-requires
make_tones-requires c = (omega (arith, c.requires.passed.0.ranged.rb_small), (c.requires.passed.0.ranged.rh_small, array_long _ c.requires.passed.0.ranged.rh_small))

pub fill_by-requires-2 : goal.fill_by-requires-2
fill_by-requires-2 c = let tones-long : 2 ^ (8 + c.args.s.rh) ≤ length c.make_tones.new.tones = omega (arith, c.make_tones.auto.tones, array_long _ c.requires.passed.0.ranged.rh_small) in
    record {
      lending = rw c.by_table.ensures (tones_there c.requires.passed.0 c.requires.passed.1 _ c.make_tones.ensures (tones-long));
      pixels_in_bounds = rw c.by_table.ensures c.requires.pixels_in_bounds;
    }

pub returns : goal.returns
returns c = let tones-long : 2 ^ (8 + c.args.s.rh) ≤ length c.make_tones.new.tones = omega (arith, c.make_tones.auto.tones, array_long _ c.requires.passed.0.ranged.rh_small) in
    c.fill_by-2.ensures
    ∙ ap (λ k. merged_picture k c.args.pixels c.args.base.now c.args.residual.now c.make_tones.new.tones ++ drop (samples k c.args.pixels) c.args.destination.now) c.by_table.ensures
    ∙ ap (λ l. l ++ drop (samples c.args.s c.args.pixels) c.args.destination.now) (tones_alike c.requires.passed.0 c.requires.passed.1 c.make_tones.new.tones c.make_tones.ensures (tones-long))
