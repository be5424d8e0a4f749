-- `basis::basis_one` meets its contract. Assumes nothing.
use mathlib.Core.Path.{◌≡◌, sym, ap, ◌∙◌}
use mir.Syntax.{w64}
use mir.Facts.{to_z-of_z}
use Rattle.laws.proofs.Integers.{back}
use lib.IntN.{ℤ}
use Rattle.merge_rules.specs.Near.{clip, top}
use Rattle.merge_rules.specs.Curves.{curved}
use Rattle.merge_rules.specs.Pixels.{single}
use Rattle.basis.proofs.Laws.{basis_single}
use Rattle.basis.proofs.basis_one.Goals as goal

pub returns : goal.returns
returns c = let e : c.toned.result ≡ curved c.args.s.curve c.args.s.rb c.args.s.rh c.args.table.now (clip c.args.y (top c.args.s.rh)) =
    c.toned.ensures.0 ∙ ap (λ (z : ℤ). curved c.args.s.curve c.args.s.rb c.args.s.rh c.args.table.now (clip z (top c.args.s.rh))) (back w64 c.wide.result c.wide.type_inv ∙ c.wide.ensures.0 ∙ to_z-of_z c.ranges.y)
    in
    rw (back w64 c.toned.result c.toned.type_inv) (ap single e ∙ sym (basis_single c.args.s c.args.table.now c.args.y), c.toned.ensures.1)

pub toned-requires : goal.toned-requires
toned-requires c = record { rb_bound = (c.requires.rb_small, c.requires.rh_small); there = c.requires.there }
