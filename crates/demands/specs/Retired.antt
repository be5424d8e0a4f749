-- D13: level 4 is no longer written. Our writer, and so demand 3's writer of planes 1 to 3, beside the rules of 01, and the readers of what was stored.
use Rattle.std.specs.Prelude.{◌≡◌, cond, List, [], ◌∷◌, map, ℕ, ◌*◌, ◌≤◌, eqb, leb, ℤ, pos, length, replicate}
use Rattle.laws.specs.Index.{every}
use Rattle.answers.specs.Verdict.{Verdict, given, refused, refusal, Meets}
use Rattle.answers.specs.declared.Answer.{Answer}
use Rattle.bit_rules.specs.Table.{Table}
use Rattle.plane_rules.specs.Plane.{Writer, the_rules}
use Rattle.plane_rules.specs.Dc.{read_dc, dc_half, written_dc, write_dc}
use Rattle.plane_rules.specs.AcRead.{read_ac}
use Rattle.plane_rules.specs.AcWrite.{ac_half, written_ac, write_ac}
use Rattle.demands.specs.Two.{Handed}
use Rattle.demands.specs.Three.{Both, level_of, Provided, together, write_plane, Refined}

-- D13: "28, level retired, place 0": for plane 4 with no more than 1,024 blocks, whatever else is lent; everywhere else what the rules of 01 say
abbrev pub but_level_four : ℕ → ℕ → Verdict ℕ → Verdict ℕ
but_level_four plane blocks byRules = cond (every (eqb plane 4 ∷ leb blocks 1024 ∷ [])) (refused (refusal 28 0)) byRules

-- D13: for each plane, count, table, values and room
pub record LevelFour : Type 0 where
  -- "The writer refuses level 4 from now on.", and nothing else changes
  pub dc_written : (plane blocks : ℕ) (values : List ℤ) (room : ℕ)
      → write_dc plane blocks values room ≡ but_level_four plane blocks (written_dc the_rules plane blocks values room)
  pub ac_written : (plane blocks : ℕ) (codes : Table) (values : List ℤ) (room : ℕ)
      → write_ac plane blocks codes values room ≡ but_level_four plane blocks (written_ac the_rules plane blocks codes values room)
  -- "Readers go on reading stored pictures that have it.": whatever is written, by our writer or by the rules, is read over the halves
  pub dc_stored : (writer : Writer) (plane blocks : ℕ) (values : List ℤ) (room space : ℕ) (bytes : List ℕ)
      → written_dc writer plane blocks values room ≡ given bytes → blocks ≤ space → read_dc plane blocks (map dc_half values) bytes space ≡ given values
  pub ac_stored : (writer : Writer) (plane blocks : ℕ) (codes : Table) (values : List ℤ) (room space : ℕ) (bytes : List ℕ)
      → written_ac writer plane blocks codes values room ≡ given bytes → 63 * blocks ≤ space
      → read_ac plane blocks codes (map ac_half values) bytes space ≡ given values
  -- "Demand 3 then holds for our writer with k up to 3.": its planes 1 to 3 are what our two calls write
  pub ours : (j n : ℕ) (lent : Provided) (values : Both ℤ) → j ≤ 3
      → write_plane j n lent values ≡ together (write_dc j n values.dc lent.dc_room) (write_ac j n lent.table values.ac lent.ac_room)

-- ---- what follows for calls that meet their promise, and would not if the law said less

-- D13: 28, place 0, and zeros all over the destination
pub record NotWritten (before after : List ℕ) (answer : Answer) : Type 0 where
  pub number : answer.number ≡ 28
  pub place : answer.place ≡ 0
  pub second : answer.second ≡ 0
  pub zeros : after ≡ replicate (length before) 0

-- D13: a plane of demand 3 up to the third, as our two calls write it
pub record ByOurCalls (k n : ℕ) (full : Both ℤ) (lent : ℕ → Provided) (demanded : Refined k n full lent) (j : ℕ) : Type 0 where
  pub dc : (before after : List ℕ) (answer : Answer) → length before ≡ (lent j).dc_room
      → Meets 0 (write_dc j n (level_of k full j).dc (length before)) before after answer → Handed (demanded.plane j).dc after answer
  pub ac : (before after : List ℕ) (answer : Answer) → length before ≡ (lent j).ac_room
      → Meets 0 (write_ac j n (lent j).table (level_of k full j).ac (length before)) before after answer → Handed (demanded.plane j).ac after answer

-- D13: all of these
pub record FourShown : Type 0 where
  pub dc_refused : (blocks : ℕ) (values : List ℤ) (before after : List ℕ) (answer : Answer) → blocks ≤ 1024
      → Meets 0 (write_dc 4 blocks values (length before)) before after answer → NotWritten before after answer
  pub ac_refused : (blocks : ℕ) (codes : Table) (values : List ℤ) (before after : List ℕ) (answer : Answer) → blocks ≤ 1024
      → Meets 0 (write_ac 4 blocks codes values (length before)) before after answer → NotWritten before after answer
  -- of every other plane a call of ours answers and leaves what the rules say
  pub dc_as_ruled : (plane blocks : ℕ) (values : List ℤ) (before after : List ℕ) (answer : Answer) → (plane ≡ 4 → ⊥)
      → Meets 0 (write_dc plane blocks values (length before)) before after answer
      → Meets 0 (written_dc the_rules plane blocks values (length before)) before after answer
  pub ac_as_ruled : (plane blocks : ℕ) (codes : Table) (values : List ℤ) (before after : List ℕ) (answer : Answer) → (plane ≡ 4 → ⊥)
      → Meets 0 (write_ac plane blocks codes values (length before)) before after answer
      → Meets 0 (written_ac the_rules plane blocks codes values (length before)) before after answer
  -- what the rules write as a fourth plane, a reader that meets its promise hands out
  pub dc_read : (blocks room : ℕ) (values : List ℤ) (bytes : List ℕ) (before after : List ℤ) (answer : Answer)
      → written_dc the_rules 4 blocks values room ≡ given bytes → blocks ≤ length before
      → Meets (pos 0) (read_dc 4 blocks (map dc_half values) bytes (length before)) before after answer → Handed values after answer
  pub ac_read : (blocks room : ℕ) (codes : Table) (values : List ℤ) (bytes : List ℕ) (before after : List ℤ) (answer : Answer)
      → written_ac the_rules 4 blocks codes values room ≡ given bytes → 63 * blocks ≤ length before
      → Meets (pos 0) (read_ac 4 blocks codes (map ac_half values) bytes (length before)) before after answer → Handed values after answer
  -- "Demand 3 then holds for our writer with k up to 3.": whatever calls of ours write planes 1 to 3, these are the planes of demand 3
  pub ours : (k n : ℕ) (full : Both ℤ) (lent : ℕ → Provided) (demanded : Refined k n full lent) (j : ℕ) → 1 ≤ j → j ≤ k → j ≤ 3
      → ByOurCalls k n full lent demanded j
