-- What the code's struct stands for, number by number. Assumes nothing.
use mathlib.Core.Path.{◌≡◌, refl}
use lib.IntN.{pos}
use Rattle.merge_rules.specs.Pixels.{triple}
use Rattle.basis.specs.Code.{three_of}

pub in_order : three_of (record { first = pos 1; second = pos 2; third = pos 3 }) ≡ triple (pos 1) (pos 2) (pos 3)
in_order = refl
