-- `basis::toned` meets its contract. Assumes nothing.
use mathlib.Core.Path.{◌≡◌, ◌∙◌, ap}
use native.Mathlib.Omega.{arith}
use mir.Syntax.{w64}
use mir.Facts.{to_z-of_z}
use Rattle.laws.proofs.Integers.{back}
use Rattle.merge_rules.specs.Near.{clip, top}
use Rattle.rounding.proofs.Laws.{clip_small}
use Rattle.merge_rules.specs.Curves.{curved}
use Rattle.basis.proofs.toned.Goals as goal

pub curved-requires : goal.curved-requires
curved-requires c = let is-clip : c.clip-x.result ≡ clip c.args.v (top c.args.rh) = c.clip-x.ensures ∙ ap (λ z. clip z c.top_of.result) (to_z-of_z c.ranges.v) ∙ ap (clip c.args.v) c.top_of.ensures.0 in
    record { rb_bound = (c.requires.rb_bound.0, (c.requires.rb_bound.1, omega (arith, is-clip, clip_small c.args.v (top c.args.rh)))); there = c.requires.there }

pub returns : goal.returns
returns c = let is-clip : c.clip-x.result ≡ clip c.args.v (top c.args.rh) = c.clip-x.ensures ∙ ap (λ z. clip z c.top_of.result) (to_z-of_z c.ranges.v) ∙ ap (clip c.args.v) c.top_of.ensures.0 in
    rw (back w64 c.curved.result c.curved.type_inv) (c.curved.ensures.0 ∙ ap (curved c.args.curve c.args.rb c.args.rh c.args.table.now) (is-clip), c.curved.ensures.1)
