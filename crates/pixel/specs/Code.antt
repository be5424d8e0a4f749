-- What the code's struct stands for.
use Rattle.std.specs.Prelude.{ℕ}
use Rattle.pixel.specs.declared.Samples.{Samples}
use Rattle.merge_rules.specs.Pixels.{Pixel, triple}

abbrev pub samples_of : Samples → Pixel ℕ
samples_of t = triple t.first t.second t.third
