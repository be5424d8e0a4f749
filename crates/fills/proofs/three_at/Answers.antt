-- `fills::three_at` meets its contract. Assumes nothing.
use mathlib.Core.Path.{◌≡◌, ◌∙◌}
use mathlib.Core.List.{List}
use Prim.Native.Nat.{ℕ, ◌+◌}
use lib.IntN.{ℤ, pos}
use lib.ListN.{get_or}
use mir.Syntax.{w32}
use Rattle.laws.proofs.Integers.{back}
use Rattle.merge_rules.specs.Pixels.{Pixel, triple}
use Rattle.basis.specs.Code.{three_of}
use Rattle.merge_rules.specs.Steps.{basis, step_four}
use Rattle.fills.proofs.Laws.{in_first, in_second, in_third, three_alone, three_added}
use Rattle.fills.proofs.three_at.Goals as goal

-- the three numbers of a pixel in a lent slice
abbrev planar : List ℤ → ℕ → ℕ → Pixel ℤ
planar x pixels p = triple (get_or x p (pos 0)) (get_or x (pixels + p) (pos 0)) (get_or x (pixels + pixels + p) (pos 0))

pub bounds-base-p : goal.bounds-base-p
bounds-base-p c = in_first c.args.s c.args.pixels c.args.p c.requires.lending.base_long c.requires.components_value.0 c.requires.components_value.1

pub bounds-base-q : goal.bounds-base-q
bounds-base-q c = in_second c.args.s c.args.pixels c.args.p c.requires.lending.base_long c.requires.components_value.0 c.requires.components_value.1

pub bounds-base-w : goal.bounds-base-w
bounds-base-w c = in_third c.args.s c.args.pixels c.args.p c.requires.lending.base_long c.requires.components_value.0 c.requires.components_value.1

pub bounds-residual-p : goal.bounds-residual-p
bounds-residual-p c = in_first c.args.s c.args.pixels c.args.p (c.requires.lending.residual_long c.in-Present.is) c.requires.components_value.0 c.requires.components_value.1

pub bounds-residual-q : goal.bounds-residual-q
bounds-residual-q c = in_second c.args.s c.args.pixels c.args.p (c.requires.lending.residual_long c.in-Present.is) c.requires.components_value.0 c.requires.components_value.1

pub bounds-residual-w : goal.bounds-residual-w
bounds-residual-w c = in_third c.args.s c.args.pixels c.args.p (c.requires.lending.residual_long c.in-Present.is) c.requires.components_value.0 c.requires.components_value.1

pub returns-in-Absent : goal.returns-in-Absent
returns-in-Absent c = let based : three_of c.basis_three-b.result ≡ basis c.args.s c.args.table.now (planar c.args.base.now c.args.pixels c.args.p) = c.basis_three-b.ensures.0 ∙ rw (back w32 (get_or c.args.base.now c.args.p (pos 0)) c.basis_three-arg-1.given, back w32 (get_or c.args.base.now (c.args.pixels + c.args.p) (pos 0)) c.basis_three-arg-2-1.given, back w32 (get_or c.args.base.now (c.args.pixels + c.args.pixels + c.args.p) (pos 0)) c.basis_three-arg-3-1.given) in
    c.alone_three.ensures
    ∙ three_alone c.args.s c.args.pixels c.args.base.now c.args.residual.now c.args.table.now c.args.p c.requires.components_value.0 (three_of c.basis_three-b.result) (based) c.in-Absent.is

pub returns-in-Present : goal.returns-in-Present
returns-in-Present c = let based : three_of c.basis_three-b.result ≡ basis c.args.s c.args.table.now (planar c.args.base.now c.args.pixels c.args.p) = c.basis_three-b.ensures.0 ∙ rw (back w32 (get_or c.args.base.now c.args.p (pos 0)) c.basis_three-arg-1.given, back w32 (get_or c.args.base.now (c.args.pixels + c.args.p) (pos 0)) c.basis_three-arg-2-1.given, back w32 (get_or c.args.base.now (c.args.pixels + c.args.pixels + c.args.p) (pos 0)) c.basis_three-arg-3-1.given) in
    let four : three_of c.residual_three-r.result ≡ step_four c.args.s (planar c.args.residual.now c.args.pixels c.args.p) = c.residual_three-r.ensures.0 ∙ rw (back w32 (get_or c.args.residual.now c.args.p (pos 0)) c.residual_three-arg-1.given, back w32 (get_or c.args.residual.now (c.args.pixels + c.args.p) (pos 0)) c.residual_three-arg-in-Present-1.given, back w32 (get_or c.args.residual.now (c.args.pixels + c.args.pixels + c.args.p) (pos 0)) c.residual_three-arg-in-Present-2-1.given) in
    c.added_three.ensures
    ∙ three_added c.args.s c.args.pixels c.args.base.now c.args.residual.now c.args.table.now c.args.p c.requires.components_value.0 (three_of c.basis_three-b.result) (based) (three_of c.residual_three-r.result) (four) c.in-Present.is
