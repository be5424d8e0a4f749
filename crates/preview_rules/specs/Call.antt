-- V4: the verdict of the call, 20, 21, 22, 9.
use Rattle.std.specs.Prelude.{List, ℕ, leb, eqb, length}
use Rattle.answers.specs.Verdict.{Verdict, need, unless, fitting}
use Rattle.transform_rules.specs.Call.{first_bad_quantiser}
use Rattle.preview_rules.specs.Owed.{owed_block}

-- V4, N16: 0 to 4 planes left, else 20; 64 quantisers, else 21; each 1 to 255, else 22; room for 64 numbers, else 9
unfoldable pub preview_owes : ℕ → List ℕ → ℕ → Verdict ℕ
preview_owes left quantisers room =
    need (leb left 4) 20 0
    (need (eqb (length quantisers) 64) 21 0
    (unless 22 (first_bad_quantiser quantisers)
    (fitting room (owed_block left quantisers))))
