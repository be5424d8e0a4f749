-- What a code of an AC plane asks of the positions that follow it.
use Rattle.std.specs.Prelude.{Bool, true, false, ℕ, zero, suc, ℤ, pos, negsuc, Option, Some, None}

-- R5: pass n zeros, then set the next zero to +1 or -1 (`some`) or leave it zero (`none`); or this block and n more end here
pub data Task : Type 0 where
  walk : ℕ → Option Bool → Task
  ended : ℕ → Task

-- R9: "1 is positive"
abbrev pub unit : Bool → ℤ
unit true = pos 1
unit false = negsuc 0

-- R9, R10, R11: at a zero: "each zero counts; the zero after r zeros becomes +1 or -1"
abbrev pub at_zero : Task → ℤ
at_zero (walk zero None) = pos 0
at_zero (walk zero (Some b)) = unit b
at_zero (walk (suc n) sign) = pos 0
at_zero (ended n) = pos 0

-- R6, R7, R9, R10, R11: what is left of the task behind a zero
abbrev pub pass : Task → Option Task
pass (walk zero sign) = None
pass (walk (suc n) sign) = Some (walk n sign)
pass (ended n) = Some (ended n)

-- R11, R14: the task that the next block begins with
abbrev pub over : Option Task → Option Task
over None = None
over (Some (ended zero)) = None
over (Some (ended (suc n))) = Some (ended n)
over (Some (walk n sign)) = None
