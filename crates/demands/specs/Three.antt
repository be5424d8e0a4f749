-- D3: take any blocks within the ranges and any k from 0 to 4. Write them as a base and k planes, planes 1 to 3 with our writer and a fourth by the
-- rules of 01, given room and code tables that hold every code needed. Each plane is accepted. After the first j planes each value is the full one
-- divided by 2^(k-j), downward for DC and toward zero for AC; after all k it is the full value.
use Rattle.std.specs.Prelude.{◌≡◌, true, cond, List, ℕ, ◌*◌, ◌≤◌, leb, ℤ, length, Option, Some, None}
use Rattle.answers.specs.Verdict.{Verdict, given, refused}
use Rattle.levels.specs.Level.{first_outside}
use Rattle.levels.specs.declared.Part.TheVariants.{Dc, Ac}
use Rattle.bit_rules.specs.Table.{Table, good_table}
use Rattle.plane_rules.specs.Plane.{Writer, our_writer, the_rules}
use Rattle.plane_rules.specs.Dc.{read_dc, written_dc, dc_bytes}
use Rattle.plane_rules.specs.AcRead.{read_ac}
use Rattle.plane_rules.specs.AcWrite.{written_ac, tokens, lacking, ac_bytes}
use Rattle.plane_rules.specs.Levels.{downward, toward_zero, at_level, climb}

-- L6: "Plane j" of a picture means both, DC and AC: the values of its blocks, or the bytes of a plane
pub record Both (A : Type 0) : Type 0 where
  pub dc : List A
  pub ac : List A

-- D3: any blocks within the ranges: n blocks, their full values at level k
pub record Within (k n : ℕ) (values : Both ℤ) : Type 0 where
  pub few : n ≤ 1024
  pub dc_count : length values.dc ≡ n
  pub ac_count : length values.ac ≡ 63 * n
  pub dc_range : first_outside Dc k values.dc ≡ None
  pub ac_range : first_outside Ac k values.ac ≡ None

-- D3: the full one divided by 2^(k-j), downward for DC and toward zero for AC; level 0 is the base
unfoldable pub level_of : ℕ → Both ℤ → ℕ → Both ℤ
level_of k full j = record { dc = at_level downward k full.dc j; ac = at_level toward_zero k full.ac j }

-- D3: what the calls for one plane are lent: a code table, lengths of the destinations for the bytes and for the values read
pub record Provided : Type 0 where
  pub table : Table
  pub dc_room : ℕ
  pub ac_room : ℕ
  pub dc_space : ℕ
  pub ac_space : ℕ

-- D3: room, and code tables that hold every code needed
pub record Enough (n : ℕ) (values : Both ℤ) (lent : Provided) : Type 0 where
  pub good : good_table lent.table ≡ true
  pub codes : lacking lent.table (tokens n values.ac) ≡ None
  pub dc_room : length (dc_bytes values.dc) ≤ lent.dc_room
  pub ac_room : length (ac_bytes n lent.table values.ac) ≤ lent.ac_room
  pub dc_space : n ≤ lent.dc_space
  pub ac_space : 63 * n ≤ lent.ac_space

-- L6: both calls accept, or the plane is not accepted
abbrev pub together : {A : Type 0} → Verdict A → Verdict A → Option (Both A)
together (given dc) (given ac) = Some (record { dc = dc; ac = ac })
together (given dc) (refused r) = None
together (refused r) other = None

-- D3, E11: "for our writer with k up to 3", and "the fourth plane written by the rules of 01"
abbrev pub writer_of : ℕ → Writer
writer_of j = cond (leb j 3) our_writer the_rules

-- L6: plane j, written so
unfoldable pub write_plane : ℕ → ℕ → Provided → Both ℤ → Option (Both ℕ)
write_plane j n lent values =
    together (written_dc (writer_of j) j n values.dc lent.dc_room) (written_ac (writer_of j) j n lent.table values.ac lent.ac_room)

-- L6: plane j, read over the values that were there before
unfoldable pub read_plane : ℕ → ℕ → Provided → Both ℕ → Both ℤ → Option (Both ℤ)
read_plane j n lent bytes values =
    together (read_dc j n values.dc bytes.dc lent.dc_space) (read_ac j n lent.table values.ac bytes.ac lent.ac_space)

-- D3: what is demanded of these blocks
pub record Refined (k n : ℕ) (full : Both ℤ) (lent : ℕ → Provided) : Type 0 where
  -- the bytes of each plane
  pub plane : ℕ → Both ℕ
  -- each plane is accepted: plane j of the values of level j
  pub written : (j : ℕ) → 1 ≤ j → j ≤ k → write_plane j n (lent j) (level_of k full j) ≡ Some (plane j)
  -- after the first j planes each value is the full one divided by 2^(k-j)
  pub after : (j : ℕ) → j ≤ k → climb (λ i values. read_plane i n (lent i) (plane i) values) j (level_of k full 0) ≡ Some (level_of k full j)
  -- after all k it is the full value
  pub whole : level_of k full k ≡ full
  -- and each level, the base too, lies in its ranges
  pub within : (j : ℕ) → j ≤ k → Within j n (level_of k full j)

-- D3: the demand
abbrev pub DemandThree : Type 0
DemandThree =
    (k n : ℕ) (full : Both ℤ) (lent : ℕ → Provided) → k ≤ 4 → Within k n full
    → ((j : ℕ) → 1 ≤ j → j ≤ k → Enough n (level_of k full j) (lent j)) → Refined k n full lent

-- D3: its conditions can be met: whatever the values, there is a table that holds every code needed, and room
abbrev pub CanBeMet : Type 0
CanBeMet = (n : ℕ) (values : Both ℤ) → (lent : Provided) × Enough n values lent
