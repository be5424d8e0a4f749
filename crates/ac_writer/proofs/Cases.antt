-- What the code's new pen stands for, worked out by hand and computed. Assumes nothing.
use mathlib.Core.Path.{◌≡◌, refl}
use Rattle.std.specs.Prelude.{None}
use Rattle.ac_writer.specs.Code.{new_pen}

-- no byte and no bit put, room for seven bits after the next, and no code that was lacking
pub new : (new_pen.putter.at ≡ 0) × (new_pen.putter.held ≡ 0) × (new_pen.putter.room ≡ 7) × (new_pen.lack ≡ None)
new = (refl, refl, refl, refl)
