-- Records run one after the other, and the tally of each group; behind a million the counts begin anew.
use Rattle.std.specs.Prelude.{Bool, true, false, cond, List, ℕ, ◌+◌, ◌-◌, ◌%◌, eqb}
use Rattle.test_rules.specs.Fields.{number_at}
use Rattle.test_rules.specs.declared.Finding.{Finding}
use Rattle.test_rules.specs.declared.Run.{Run}

unfoldable pub begun : List ℕ → Run
begun bytes = record { at = number_at bytes 4; left = number_at bytes 0; group = number_at bytes (number_at bytes 4); right = 0; all = 0 }

-- one more record of the group
unfoldable pub counted : Run → Bool → Run
counted r true = record { at = r.at; left = r.left - 1; group = r.group; right = r.right % 1000000 + 1; all = r.all % 1000000 + 1 }
counted r false = record { at = r.at; left = r.left - 1; group = r.group; right = r.right % 1000000; all = r.all % 1000000 + 1 }

-- a record of the same group follows
unfoldable pub goes_on : ℕ → ℕ → ℕ → Bool
goes_on left group next = cond (eqb left 0) false (eqb group next)

-- a group that ends leaves no counts
unfoldable pub moved : Bool → Run → ℕ → ℕ → Run
moved same r at group = record { at = at; left = r.left; group = group; right = cond same r.right 0; all = cond same r.all 0 }

unfoldable pub next_run : List ℕ → Run → Finding → Run
next_run bytes r ran =
    moved (goes_on (counted r ran.good).left (counted r ran.good).group (number_at bytes ran.next))
    (counted r ran.good) ran.next (number_at bytes ran.next)
