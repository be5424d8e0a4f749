-- What the loop of `codes::look_up` keeps.
use mathlib.Core.Path.{◌≡◌}
use Rattle.bits.specs.Code.{bits_in}
use Rattle.bit_rules.specs.Table.{table}
use Rattle.codes.proofs.Looking.{Here}
use Rattle.codes.proofs.look_up.Given as goal

abbrev pub invariant-loop-l : goal.invariant-loop-l
invariant-loop-l l = record { read : Here (table l.counts l.values) l.numbers (bits_in l.fn.r) (bits_in l.here) l.code l.l; kept : bits_in l.r ≡ bits_in l.fn.r }
