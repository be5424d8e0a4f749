-- `curves::curved` meets its contract: a curve at a time. Assumes nothing.
use mathlib.Core.Path.{◌∙◌, ap}
use native.Mathlib.Omega.{arith}
use lib.IntN.{pos, nat_abs}
use lib.ListN.{get_or}
use mir.Syntax.{w64}
use Rattle.laws.proofs.Integers.{back}
use Rattle.merge_rules.specs.Curves.{curved}
use Rattle.curves.proofs.Laws.{in_table, in_srgb}
use Rattle.curves.proofs.curved.Goals as goal

pub entry-requires : goal.entry-requires
entry-requires c = in_table c.requires.there c.args.x c.requires.rb_bound.1.1 c.requires.rb_bound.1.0 c.in-Table.is

pub entry-requires-in-Srgb : goal.entry-requires-in-Srgb
entry-requires-in-Srgb c = in_srgb c.requires.there c.args.x c.requires.rb_bound.1.1 c.in-Srgb.is

pub returns-in-Straight : goal.returns-in-Straight
unfolding curved
returns-in-Straight c = rw (back w64 c.straight.result c.straight.type_inv, c.in-Straight.is) (c.straight.ensures.0, c.straight.ensures.1)

pub returns-in-Table : goal.returns-in-Table
unfolding curved
returns-in-Table c = rw (back w64 c.wide_count.result c.wide_count.type_inv, c.in-Table.is) (c.wide_count.ensures ∙ ap pos c.entry.ensures, omega (arith, ap nat_abs c.wide_count.ensures))

pub returns-in-Srgb : goal.returns-in-Srgb
unfolding curved
returns-in-Srgb c = rw (back w64 c.wide_count-in-Srgb.result c.wide_count-in-Srgb.type_inv, c.in-Srgb.is) (
  c.wide_count-in-Srgb.ensures ∙ ap pos (c.entry-in-Srgb.ensures ∙ ap (λ l. get_or l c.args.x 0) (c.requires.there.itself c.in-Srgb.is)),
  omega (arith, ap nat_abs c.wide_count-in-Srgb.ensures),
)
