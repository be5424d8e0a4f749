-- What the loop of `code_entries::code_table` keeps.
use Rattle.bit_rules.specs.Table.{table}
use Rattle.code_entries.proofs.Entering.{Entering}
use Rattle.code_entries.proofs.code_table.Given as goal

abbrev pub invariant-loop-place : goal.invariant-loop-place
invariant-loop-place l = Entering (table l.counts l.values) l.entries l.place
