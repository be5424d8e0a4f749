-- `fills::one_at` meets its contract. Assumes nothing.
use mathlib.Core.Path.{◌≡◌, ap, ◌∙◌}
use native.Mathlib.Omega.{arith}
use lib.IntN.{pos}
use lib.ListN.{get_or}
use mir.Syntax.{w32, w64}
use mir.Val.{to_z, of_z}
use Rattle.laws.proofs.Integers.{back}
use Rattle.merge_rules.specs.Pixels.{single}
use Rattle.merge_rules.specs.Steps.{alone, added, scaled, basis}
use Rattle.fills.proofs.Laws.{in_one, one_alone, one_added}
use Rattle.fills.proofs.one_at.Goals as goal

pub bounds-base-p : goal.bounds-base-p
bounds-base-p c = in_one c.args.s c.args.pixels c.args.p c.requires.lending.base_long c.requires.components_value.0 c.requires.components_value.1

pub bounds-residual-p : goal.bounds-residual-p
bounds-residual-p c = in_one c.args.s c.args.pixels c.args.p (c.requires.lending.residual_long c.in-Present.is) c.requires.components_value.0 c.requires.components_value.1

pub added-requires : goal.added-requires
added-requires c = rw (back w64 c.basis_one-b.result c.basis_one-b.type_inv, back w64 c.scaled.result c.scaled.type_inv) (c.requires.lending.ranged.rb_small, (omega (arith, c.basis_one-b.ensures.1), omega (arith, c.scaled.ensures.1)))

pub returns-in-Absent : goal.returns-in-Absent
returns-in-Absent c = let based : single c.basis_one-b.result ≡ basis c.args.s c.args.table.now (single (get_or c.args.base.now c.args.p (pos 0))) = c.basis_one-b.ensures.0 ∙ ap (λ z. basis c.args.s c.args.table.now (single z)) (back w32 (get_or c.args.base.now c.args.p (pos 0)) c.basis_one-arg-1.given) in
    let h = based in
    ap single (c.alone.ensures ∙ ap (alone c.args.s.rb) (back w64 c.basis_one-b.result c.basis_one-b.type_inv))
    ∙ one_alone c.args.s c.args.pixels c.args.base.now c.args.residual.now c.args.table.now c.args.p c.requires.components_value.0 c.basis_one-b.result h c.in-Absent.is

pub returns-in-Present : goal.returns-in-Present
returns-in-Present c = let based : single c.basis_one-b.result ≡ basis c.args.s c.args.table.now (single (get_or c.args.base.now c.args.p (pos 0))) = c.basis_one-b.ensures.0 ∙ ap (λ z. basis c.args.s c.args.table.now (single z)) (back w32 (get_or c.args.base.now c.args.p (pos 0)) c.basis_one-arg-1.given) in
    let h = based in
    let x = get_or c.args.residual.now c.args.p (pos 0) in
    ap single
    (c.added.ensures ∙ ap (λ z. added c.args.s.rb z (to_z w64 (of_z w64 c.scaled.result))) (back w64 c.basis_one-b.result c.basis_one-b.type_inv) ∙ ap (added c.args.s.rb c.basis_one-b.result) (back w64 c.scaled.result c.scaled.type_inv ∙ c.scaled.ensures.0 ∙ ap (scaled c.args.s.rb c.args.s.rr) (back w32 x c.scaled-arg-1.given)))
    ∙ one_added c.args.s c.args.pixels c.args.base.now c.args.residual.now c.args.table.now c.args.p c.requires.components_value.0 c.basis_one-b.result h c.in-Present.is
