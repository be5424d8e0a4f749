-- E6 to E8: what the AC writer writes, said of what is written and not of how it is chosen.
use Rattle.std.specs.Prelude.{◌≡◌, Bool, List, [], ◌∷◌, ◌++◌, map, ℕ, suc, ◌≤◌, ◌<◌, ℤ, length, Some, None}
use Rattle.bit_rules.specs.Source.{Source}
use Rattle.bit_rules.specs.Table.{Table}
use Rattle.plane_rules.specs.Plane.{read}
use Rattle.plane_rules.specs.Task.{walk, ended, over}
use Rattle.plane_rules.specs.AcRead.{ac_blocks}
use Rattle.plane_rules.specs.AcWrite.{ac_half, Kind, kind_of, ahead, quiet, plan, Token, emit, mark, write_block}

-- the values of blocks, one behind the other
abbrev pub together : List (List ℤ) → List ℤ
together [] = []
together (b ∷ bs) = b ++ together bs

-- E8: "the longest end run": an end run that is still open over n blocks and one more, and that the reader takes for these values, is no longer
-- than the one that is written, `quiet`, whatever the table, the data and what else they say
abbrev pub LongestRun : Type 0
LongestRun =
    (T : Table) (k n : ℕ) (blocks : List (List ℤ)) (s t : Source) → n < length blocks
    → ac_blocks T k (Some (ended n)) (map (map ac_half) blocks) s ≡ read (together blocks) t → suc n ≤ quiet (map (map kind_of) blocks)

-- E7: the correction bits of values, in order
abbrev pub marks : List Kind → List Token
marks [] = []
marks (x ∷ kinds) = mark x ++ marks kinds

-- E7: "starts it directly after the last new value of a block (at position 1 where there is none)": where a code is needed
-- and no new value is left, what is written is the code of the end run and then correction bits alone
abbrev pub EndsAtOnce : Type 0
EndsAtOnce =
    (x : Kind) (kinds : List Kind) (later : List (List Kind)) → ahead (x ∷ kinds) ≡ None
    → write_block None (x ∷ kinds) later ≡ (emit (ended (quiet later)) ++ marks (x ∷ kinds), over (Some (ended (quiet later))))

-- E6: "uses the 16-zero code only before a later new value": where it is told, a new value is left, and at least 16 zeros stand before it
pub record NewValueLater (kinds : List Kind) : Type 0 where
  pub zeros : ℕ
  pub sign : Bool
  pub coming : ahead kinds ≡ Some (zeros, sign)
  pub many : 16 ≤ zeros

-- E6: so it is wherever F0 is planned
abbrev pub SixteenBeforeNew : Type 0
SixteenBeforeNew = (kinds : List Kind) (later : List (List Kind)) → plan kinds later ≡ walk 15 None → NewValueLater kinds
