-- `codes::good_table` meets its contract: the tests in their order. Assumes nothing.
use mathlib.Core.Path.{sym, ◌∙◌}
use Rattle.laws.specs.Index.{every}
use borrow.Author.Tests.{eq-eqb, ne_eqb, le-leb, lt-leb}
use Rattle.bit_rules.specs.Table.{good_table}
use Rattle.laws.proofs.Tests.{every_last}
use Rattle.codes.proofs.good_table.Goals as goal

pub returns-then-counts-ne16 : goal.returns-then-counts-ne16
unfolding good_table every
returns-then-counts-ne16 c = rw (ne_eqb _ _ c.if-counts-ne16.true)

pub returns-then-values-lt1 : goal.returns-then-values-lt1
unfolding good_table every
returns-then-values-lt1 c = rw (eq-eqb _ _ c.if-counts-ne16.false, lt-leb _ _ c.if-values-lt1.true)

pub returns-then-values-gt256 : goal.returns-then-values-gt256
unfolding good_table every
returns-then-values-gt256 c = rw (eq-eqb _ _ c.if-counts-ne16.false, le-leb _ _ c.if-values-lt1.false, lt-leb _ _ c.if-values-gt256.true)

pub returns-then-code_count-values : goal.returns-then-code_count-values
unfolding good_table every
returns-then-code_count-values c = rw (eq-eqb _ _ c.if-counts-ne16.false, le-leb _ _ c.if-values-lt1.false, le-leb _ _ c.if-values-gt256.false, ← c.code_count.ensures, ne_eqb _ _ c.if-code_count-values.true)

pub returns-then-kraft_of-gt65535 : goal.returns-then-kraft_of-gt65535
unfolding good_table every
returns-then-kraft_of-gt65535 c = rw (eq-eqb _ _ c.if-counts-ne16.false, le-leb _ _ c.if-values-lt1.false, le-leb _ _ c.if-values-gt256.false, ← c.code_count.ensures, eq-eqb _ _ c.if-code_count-values.false, ← c.kraft_of.ensures, lt-leb _ _ c.if-kraft_of-gt65535.true)

pub returns : goal.returns
unfolding good_table every
returns c = rw (eq-eqb _ _ c.if-counts-ne16.false, le-leb _ _ c.if-values-lt1.false, le-leb _ _ c.if-values-gt256.false, ← c.code_count.ensures, eq-eqb _ _ c.if-code_count-values.false, ← c.kraft_of.ensures, le-leb _ _ c.if-kraft_of-gt65535.false)
    (c.all_distinct.ensures ∙ sym (every_last _))
