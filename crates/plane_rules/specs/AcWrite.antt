-- E2 and E4 to E11: writing an AC plane, with the reader's tasks, chosen by looking ahead. In this order: a value against its half (`kind_of`), what is
-- ahead in the block and in later ones (`ahead`, `quiet`), the task to open (`plan`) and its tokens (`emit`), the tokens of a block and of a plane
-- (`write_block`, `tokens`), the table (`lacking`, `spelled`), the refusals (`written_ac`) and the call (`write_ac`).
-- Case c of the whiteboard (S3), written: 6, -1 and zeros, whose halves are 3, 0 and zeros: `keep false`, `fresh false`, then `still`. Position 1,
-- nothing open: the new value ahead has 0 zeros before it (a correction does not count), so the task is `walk 0 (some false)`: code 01 and the sign
-- bit 0; then the 6 puts its correction bit, 0. Position 2 puts nothing, and the task is done. Position 3, nothing open, no new value ahead: `ended 0`,
-- 1 block being 2^0 + 0: code 00 and no bits, and the zeros behind it put nothing. By T these are 01 0 0 00, filled up with 11: 0100 0011, data 43.
use Rattle.std.specs.Prelude.{Bool, true, false, cond, List, [], ◌∷◌, ◌++◌, map, ℕ, zero, suc, ◌+◌, ◌-◌, ◌*◌, ◌/◌, ◌^◌, eqb, ltb, ℤ, pos, negsuc, neg_ℤ, nat_abs, length, Option, Some, None}
use Rattle.laws.specs.Index.{every}
use Rattle.answers.specs.Verdict.{Verdict, need, unless, fitting}
use Rattle.levels.specs.Level.{first_outside}
use Rattle.levels.specs.declared.Part.TheVariants.{Ac}
use Rattle.bit_rules.specs.Digits.{digits}
use Rattle.bit_rules.specs.Pack.{bytes_of}
use Rattle.bit_rules.specs.Table.{Table, good_table}
use Rattle.bit_rules.specs.Write.{place_of, word}
use Rattle.plane_rules.specs.Plane.{readable, Writer, our_writer, writable}
use Rattle.plane_rules.specs.Task.{Task, walk, ended, pass, over}
use Rattle.plane_rules.specs.AcRead.{cut}

-- E4: "against their halves (.. AC toward zero)"
unfoldable pub ac_half : ℤ → ℤ
ac_half (pos n) = pos (n / 2)
ac_half (negsuc n) = neg_ℤ (pos (suc n / 2))

-- E4: a value against its half: a correction bit, or a zero that stays, or a new value with its sign
pub data Kind : Type 0 where
  keep : Bool → Kind
  still : Kind
  fresh : Bool → Kind

-- E4: where the half is 0: a zero that stays, or a new value, "1 is positive"
abbrev pub from_zero : ℤ → Kind
from_zero (pos zero) = still
from_zero (pos (suc n)) = fresh true
from_zero (negsuc n) = fresh false

-- E4: where it is not: the correction bit is 1 if the value lies further from zero than twice its half
unfoldable pub kind_of : ℤ → Kind
kind_of value = cond (eqb (nat_abs (ac_half value)) 0) (from_zero value) (keep (ltb (2 * nat_abs (ac_half value)) (nat_abs value)))

-- E6: one zero more before the next new value
unfoldable pub one_more : Option (ℕ × Bool) → Option (ℕ × Bool)
one_more None = None
one_more (Some p) = Some (suc p.0, p.1)

-- E6: the zeros before the next new value, and its sign; nothing if no new value is left in the block
unfoldable pub ahead : List Kind → Option (ℕ × Bool)
ahead [] = None
ahead (keep b ∷ kinds) = ahead kinds
ahead (still ∷ kinds) = one_more (ahead kinds)
ahead (fresh b ∷ kinds) = Some (0, b)

-- E8: one block more, unless it has a new value
abbrev pub unless_new : Option (ℕ × Bool) → ℕ → ℕ
unless_new None n = suc n
unless_new (Some p) n = 0

-- E8: "the longest end run": the blocks, from the first on, that have no new value
unfoldable pub quiet : List (List Kind) → ℕ
quiet [] = 0
quiet (b ∷ bs) = unless_new (ahead b) (quiet bs)

-- E6, E7: the task where a code is needed: an end run "directly after the last new value"; "the 16-zero code only before a later new value"
abbrev pub planned : Option (ℕ × Bool) → ℕ → Task
planned None n = ended n
planned (Some p) n = cond (ltb p.0 16) (walk p.0 (Some p.1)) (walk 15 None)

-- E6, E7: the same for the values from here on and the later blocks
unfoldable pub plan : List Kind → List (List Kind) → Task
plan kinds later = planned (ahead kinds) (quiet later)

-- E5: what is written: a code's value, or a bit
pub data Token : Type 0 where
  code : ℕ → Token
  raw : Bool → Token

-- E8: the highest r, up to most, with 2^r at most n
unfoldable pub order : ℕ → ℕ → ℕ
order zero n = 0
order (suc most) n = cond (ltb n 2) 0 (suc (order most (n / 2)))

-- E8: the same up to 14: r 15 is no end run
abbrev pub class : ℕ → ℕ
class n = order 14 n

-- E6, E8: a task as its code, and the sign bit or the bits of the run
unfoldable pub emit : Task → List Token
emit (walk n None) = code (16 * n) ∷ []
emit (walk n (Some b)) = code (16 * n + 1) ∷ raw b ∷ []
emit (ended n) = code (16 * class (suc n)) ∷ map raw (digits (class (suc n)) (suc n - 2 ^ class (suc n)))

-- E5: the task at a position: the one that is open, or a new one
abbrev pub choose : Option Task → List Kind → List (List Kind) → Task
choose None kinds later = plan kinds later
choose (Some t) kinds later = t

-- E5: what tells it, if it is a new one
abbrev pub tell : Option Task → Task → List Token
tell None t = emit t
tell (Some u) t = []

-- E5: the correction bit of a value
abbrev pub mark : Kind → List Token
mark (keep b) = raw b ∷ []
mark still = []
mark (fresh b) = []

-- E5: what is left of the task behind a value
abbrev pub after : Task → Kind → Option Task
after t (keep b) = Some t
after t still = pass t
after t (fresh b) = pass t

-- E5: a block from here on, before those that are later: its tokens, and the task that the next block begins with
unfoldable pub write_block : Option Task → List Kind → List (List Kind) → List Token × Option Task
write_block o [] later = ([], over o)
write_block o (x ∷ kinds) later =
    let t : Task = choose o (x ∷ kinds) later in
    let r : List Token × Option Task = write_block (after t x) kinds later in
    (tell o t ++ (mark x ++ r.0), r.1)

-- E5: blocks one after another, each with what the one before it left open
unfoldable pub write_blocks : Option Task → List (List Kind) → List Token
write_blocks o [] = []
write_blocks o (b ∷ bs) = let r : List Token × Option Task = write_block o b bs in r.0 ++ write_blocks r.1 bs

-- E5: all that is written of a plane
unfoldable pub tokens : ℕ → List ℤ → List Token
tokens blocks values = write_blocks None (map (map kind_of) (cut blocks values))

-- E9: 19, "writer's table lacks a code", "the code's value", "first needed in writing order"
abbrev pub or_else : ℕ → Option ℕ → Option ℕ → Option ℕ
or_else v None rest = Some v
or_else v (Some k) rest = rest

-- E9: the first such code of the tokens
unfoldable pub lacking : Table → List Token → Option ℕ
lacking T [] = None
lacking T (raw b ∷ rest) = lacking T rest
lacking T (code v ∷ rest) = or_else v (place_of v T.values) (lacking T rest)

-- E10: the bits of the tokens, each code by its word
unfoldable pub spelled : Table → List Token → List Bool
spelled T [] = []
spelled T (raw b ∷ rest) = b ∷ spelled T rest
spelled T (code v ∷ rest) = word T v ++ spelled T rest

-- E10: the bytes of a plane
abbrev pub ac_bytes : ℕ → Table → List ℤ → List ℕ
ac_bytes blocks T values = bytes_of (spelled T (tokens blocks values))

-- N8, K2, E2, E11: writing: 20, 28, "in plane writing directly after 20", 21, 10, 11, 19, 9
unfoldable pub written_ac : Writer → ℕ → ℕ → Table → List ℤ → ℕ → Verdict ℕ
written_ac writer plane blocks T values room =
    need (every (readable plane blocks)) 20 0
    (need (writable writer plane) 28 0
    (need (eqb (length values) (63 * blocks)) 21 0
    (need (good_table T) 10 0
    (unless 11 (first_outside Ac plane values)
    (unless 19 (lacking T (tokens blocks values))
    (fitting room (ac_bytes blocks T values)))))))

-- E11: the call
abbrev pub write_ac : ℕ → ℕ → Table → List ℤ → ℕ → Verdict ℕ
write_ac plane blocks T values room = written_ac our_writer plane blocks T values room
