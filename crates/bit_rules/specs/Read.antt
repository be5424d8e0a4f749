-- Reading a code (T.81, Annexes C and F).
use Rattle.std.specs.Prelude.{cond, List, [], ◌∷◌, ℕ, ◌+◌, ◌-◌, ◌*◌, ltb, get_or, drop}
use Rattle.bit_rules.specs.Digits.{bin}
use Rattle.bit_rules.specs.Source.{take_bit}
use Rattle.bit_rules.specs.Reader.{Reader, ◌>>=◌, done, fail}
use Rattle.bit_rules.specs.Table.{Table}

-- K4, K5: `over` is the number that the bits make so far, less the number of the first code of their length, less the codes of that length
unfoldable pub code_from : List ℕ → List ℕ → ℕ → Reader ℕ
code_from [] values over = fail 14
code_from (n ∷ counts) values over = do
  b ← take_bit
  let k = 2 * over + bin b
  cond (ltb k n) (done (get_or values k 0)) (code_from counts (drop n values) (k - n))

-- K4: the value of the next code
unfoldable pub take_code : Table → Reader ℕ
take_code T = code_from T.counts T.values 0
