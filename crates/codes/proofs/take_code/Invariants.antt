-- What the loop of `codes::take_code` keeps.
use mathlib.Core.Path.{◌≡◌}
use Rattle.bits.specs.Code.{bits_in}
use Rattle.bit_rules.specs.Table.{table}
use Rattle.codes.proofs.Reading.{Here}
use Rattle.codes.proofs.take_code.Given as goal

abbrev pub invariant-loop-count : goal.invariant-loop-count
invariant-loop-count l = record { read : Here (table l.counts l.values) (bits_in l.fn.r) (bits_in l.here) l.over l.place l.count-index; kept : bits_in l.r ≡ bits_in l.fn.r }
