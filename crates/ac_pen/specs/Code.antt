-- What the code's pen stands for, and what it means that tokens were told.
use Rattle.std.specs.Prelude.{◌≡◌, true, List, ℕ, ◌^◌, ◌<◌, Option, Some, None}
use Rattle.bit_putter.specs.Code.{Sound, Puts}
use Rattle.bit_rules.specs.Table.{Table, good_table}
use Rattle.code_entries.specs.Code.{Entries}
use Rattle.plane_rules.specs.AcWrite.{Token, lacking, spelled}
use Rattle.ac_pen.specs.declared.Pen.{Pen}

-- "19 .. first needed in writing order": what was found first stays
abbrev pub first_of : Option ℕ → Option ℕ → Option ℕ
first_of (Some v) next = Some v
first_of None next = next

-- a pen that can go on
pub record PenReady (p : Pen) : Type 0 where
  pub sound : Sound p.putter
  pub near : p.putter.at < 2 ^ 60

-- the entries of a good table
pub record Coded (T : Table) (entries : List ℕ) : Type 0 where
  pub good : good_table T ≡ true
  pub codes : Entries T entries

-- the entries of some table
pub record Known (entries : List ℕ) : Type 0 where
  pub table : Table
  pub coded : Coded table entries

-- the bits of these tokens were put, and the first code that the table lacks is kept
pub record Told (T : Table) (before after : List ℕ) (p r : Pen) (tokens : List Token) : Type 0 where
  pub put : Puts before after p.putter r.putter (spelled T tokens)
  pub lack : r.lack ≡ first_of p.lack (lacking T tokens)
