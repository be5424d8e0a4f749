-- `settings::table_count` meets its contract. Assumes nothing.
use Rattle.merge_rules.specs.Curves.{entries}
use Rattle.settings.proofs.table_count.Goals as goal

pub returns-in-Straight : goal.returns-in-Straight
unfolding entries
returns-in-Straight c = rw c.in-Straight.is

pub returns-in-Table : goal.returns-in-Table
unfolding entries
returns-in-Table c = rw c.in-Table.is c.power.ensures

pub returns-in-Srgb : goal.returns-in-Srgb
unfolding entries
returns-in-Srgb c = rw c.in-Srgb.is
