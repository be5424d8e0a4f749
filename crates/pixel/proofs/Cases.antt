-- What the code's struct stands for, number by number. Assumes nothing.
use mathlib.Core.Path.{◌≡◌, refl}
use Rattle.merge_rules.specs.Pixels.{triple}
use Rattle.pixel.specs.Code.{samples_of}

pub in_order : samples_of (record { first = 1; second = 2; third = 3 }) ≡ triple 1 2 3
in_order = refl
