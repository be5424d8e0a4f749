-- `rounding::row` meets its contract: each product and each sum fits. Assumes nothing.
use borrow.Author.Rules.{rules}
use mathlib.Core.Path.{refl}
use lib.IntN.{◌+ℤ◌, ◌*ℤ◌}
use mir.Syntax.{w64}
use mir.Val.{SFits}
use mir.Facts.{to_z-of_z}
use Rattle.laws.proofs.Integers.{fit_in, abs_prod_le}
use Rattle.merge_rules.specs.Near.{row}
use Rattle.rounding.proofs.Laws.{pair_small, row_small}
use Rattle.rounding.proofs.row.Goals as goal

module _ (c : goal.Start) where
  ka : SFits w64 (c.args.k *ℤ c.args.a)
  ka = fit_in w64 tt (abs_prod_le c.args.k c.args.a 2097152 549755846656 c.requires.k_bound.0 c.requires.a_bound.0)

  lb : SFits w64 (c.args.l *ℤ c.args.b)
  lb = fit_in w64 tt (abs_prod_le c.args.l c.args.b 2097152 549755846656 c.requires.k_bound.1.0 c.requires.a_bound.1.0)

  mc : SFits w64 (c.args.m *ℤ c.args.c)
  mc = fit_in w64 tt (abs_prod_le c.args.m c.args.c 2097152 549755846656 c.requires.k_bound.1.1 c.requires.a_bound.1.1)

  two : SFits w64 (c.args.k *ℤ c.args.a +ℤ c.args.l *ℤ c.args.b)
  two =
      let a = c.args in
      let p = c.requires.k_bound in
      let q = c.requires.a_bound in
      fit_in w64 tt (pair_small 2097152 549755846656 a.k a.l a.m a.a a.b a.c p.0 p.1.0 p.1.1 q.0 q.1.0 q.1.1)

  three : SFits w64 (row c.args.k c.args.l c.args.m c.args.a c.args.b c.args.c)
  three =
      let a = c.args in
      let p = c.requires.k_bound in
      let q = c.requires.a_bound in
      fit_in w64 tt (row_small 2097152 549755846656 a.k a.l a.m a.a a.b a.c p.0 p.1.0 p.1.1 q.0 q.1.0 q.1.1)

pub overflow_mul-result : goal.overflow_mul-result
overflow_mul-result c = let f = ka c in search rules

pub overflow_mul-result-2 : goal.overflow_mul-result-2
overflow_mul-result-2 c = let f = lb c in search rules

pub overflow_add-result : goal.overflow_add-result
overflow_add-result c = let f = ka c in let g = lb c in let h = two c in search rules

pub overflow_mul-result-3 : goal.overflow_mul-result-3
overflow_mul-result-3 c = let f = mc c in search rules

pub overflow_add-result-2 : goal.overflow_add-result-2
unfolding row
overflow_add-result-2 c = rw (to_z-of_z c.ranges.k, to_z-of_z c.ranges.a, to_z-of_z c.ranges.l, to_z-of_z c.ranges.b, to_z-of_z c.ranges.m, to_z-of_z c.ranges.c, to_z-of_z (ka c), to_z-of_z (lb c), to_z-of_z (mc c), to_z-of_z (two c)) (three c)

pub returns : goal.returns
unfolding row
returns c = rw (to_z-of_z c.ranges.k, to_z-of_z c.ranges.a, to_z-of_z c.ranges.l, to_z-of_z c.ranges.b, to_z-of_z c.ranges.m, to_z-of_z c.ranges.c, to_z-of_z (ka c), to_z-of_z (lb c), to_z-of_z (mc c), to_z-of_z (two c), to_z-of_z (three c))
    (refl, row_small 2097152 549755846656 c.args.k c.args.l c.args.m c.args.a c.args.b c.args.c c.requires.k_bound.0 c.requires.k_bound.1.0 c.requires.k_bound.1.1 c.requires.a_bound.0 c.requires.a_bound.1.0 c.requires.a_bound.1.1)
