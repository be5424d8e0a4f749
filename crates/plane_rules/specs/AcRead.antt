-- R2 to R16: reading an AC plane (T.81, Annex G). In this order: what a code asks (`end_run`, `meaning`, `task_at`), what the task that it opens does at
-- a position (`corrected`, `position`), a block (`block_end`, `ac_block`), blocks one after another (`cut`, `ac_blocks`), and the call (`read_ac`).
-- Case c of the whiteboard (S3), step by step: one block, 3 at position 1 and zeros behind it, data 43, which is 0100 0011; T has the codes 00, 01, 10
-- for 00, 01, F0. Position 1, nothing open: code 01 is r 0, s 1, and the sign bit 0 is negative, so the task is `walk 0 (some false)`. The 3 takes a
-- correction bit, 0, and becomes 6; the task stays open. Position 2 is a zero with no zeros to pass: it becomes -1, and the task is done. Position 3,
-- nothing open: code 00 is r 0, s 0, an end run of 2^0 + 0 = 1 block, `ended 0`: the zeros up to 63 stay, and behind 63 nothing is open. The bits left,
-- 11, are ones, and no byte follows: 6, -1 and zeros are given. Over zeros alone the same data make position 1 the -1, then position 2 reads the code
-- 00, and the bits left are 011: 18, place 1.
use Rattle.std.specs.Prelude.{Bool, cond, List, [], ◌∷◌, ℕ, zero, suc, ◌+◌, ◌-◌, ◌*◌, ◌/◌, ◌%◌, ◌^◌, eqb, ltb, leb, ℤ, pos, negsuc, length, Option, Some, None}
use Rattle.laws.specs.Index.{every}
use Rattle.answers.specs.Verdict.{Verdict, need, unless}
use Rattle.levels.specs.Level.{first_outside}
use Rattle.levels.specs.declared.Part.TheVariants.{Ac}
use Rattle.bit_rules.specs.Digits.{bin}
use Rattle.bit_rules.specs.Source.{Source, start, take_bit}
use Rattle.bit_rules.specs.Reader.{Reader, ◌>>=◌, done, fail}
use Rattle.bit_rules.specs.Table.{Table, good_table}
use Rattle.bit_rules.specs.Read.{take_code}
use Rattle.bit_rules.specs.Number.{take_number}
use Rattle.plane_rules.specs.Plane.{readable, parts, Plane, blocks_from, closed}
use Rattle.plane_rules.specs.Task.{Task, walk, ended, at_zero, pass, over}

-- R11, R12: "r more bits, value e; a run of 2^r + e blocks ends here, this one included"; 17 "as soon as e is read". `left`: blocks from this one on
unfoldable pub end_run : ℕ → ℕ → Reader Task
end_run left r = do
  e ← take_number r 0
  cond (leb (2 ^ r + e) left) (done (ended (2 ^ r + e - 1))) (fail 17)

-- R5, R8, R9, R10: "r (high four bits) and s (low four); s above 1 gives 15"; "one sign bit (1 is positive). Then walk on";
-- "through the 16th zero, which stays zero"
unfoldable pub meaning : ℕ → ℕ → ℕ → Reader Task
meaning left r zero = cond (ltb r 15) (end_run left r) (done (walk 15 None))
meaning left r (suc zero) = do
  b ← take_bit
  done (walk r (Some b))
meaning left r (suc (suc s)) = fail 15

-- R5, R7: the task at a position: where none is open, the next code makes one
unfoldable pub task_at : Table → ℕ → Option Task → Reader Task
task_at T left (Some t) = done t
task_at T left None = do
  v ← take_code T
  meaning left (v / 16) (v % 16)

-- R6: "A corrected value c becomes 2c, moved one away from zero if the bit is 1."
abbrev pub corrected : ℤ → Bool → ℤ
corrected (pos n) b = pos (2 * n + bin b)
corrected (negsuc n) b = negsuc (2 * n + 1 + bin b)

-- R6: "each value already nonzero takes one correction bit, each zero counts": the new value, and what is left of the task
unfoldable pub position : Task → ℤ → Reader (ℤ × Option Task)
position t (pos zero) = done (at_zero t, pass t)
position t (pos (suc n)) = do
  b ← take_bit
  done (corrected (pos (suc n)) b, Some t)
position t (negsuc n) = do
  b ← take_bit
  done (corrected (negsuc n) b, Some t)

-- R11, R13, R14: behind position 63 an open walk has "no place left in the block": 16; an end run goes on
unfoldable pub block_end : Option Task → Reader (List ℤ × Option Task)
block_end None = done ([], None)
block_end (Some (ended n)) = done ([], over (Some (ended n)))
block_end (Some (walk n sign)) = fail 16

-- R5, R14: the positions of a block from here on: their new values, and the task that the next block begins with
unfoldable pub ac_block : Table → ℕ → Option Task → List ℤ → Reader (List ℤ × Option Task)
ac_block T left o [] = block_end o
ac_block T left o (c ∷ values) = do
  t ← task_at T left o
  x ← position t c
  r ← ac_block T left x.1 values
  done (x.0 ∷ r.0, r.1)

-- L2: n blocks, "63 for an AC plane"
unfoldable pub cut : ℕ → List ℤ → List (List ℤ)
cut n values = parts 63 n values

-- R3, R5, R16: the block with this number and those after it
unfoldable pub ac_blocks : Table → ℕ → Option Task → List (List ℤ) → Source → Plane
ac_blocks T block o bs s = blocks_from (λ p b later. ac_block T (suc (length later)) p b) block o bs s

-- N7, K2, R2: reading: 20, 21, 10, 11, 9, then 12 to 18 as the bits are met
unfoldable pub read_ac : ℕ → ℕ → Table → List ℤ → List ℕ → ℕ → Verdict ℤ
read_ac plane blocks T values bytes room =
    need (every (readable plane blocks)) 20 0
    (need (eqb (length values) (63 * blocks)) 21 0
    (need (good_table T) 10 0
    (unless 11 (first_outside Ac (plane - 1) values)
    (need (leb (63 * blocks) room) 9 (63 * blocks)
    (closed (ac_blocks T 0 None (cut blocks values) (start bytes)))))))
