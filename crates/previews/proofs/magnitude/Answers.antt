-- `previews::magnitude` meets its contract: the table holds the magnitudes. Assumes nothing.
use mathlib.Core.Path.{ap, ◌∙◌}
use mathlib.Core.List.{List}
use Prim.Native.Nat.{ℕ, ◌+◌, ◌*◌}
use native.Mathlib.Omega.{arith}
use lib.ListN.{length, get_or}
use Rattle.previews.proofs.Tables.{table_long, magnitude_at}
use Rattle.previews.proofs.magnitude.Goals as goal

pub bounds-table-i : goal.bounds-table-i
bounds-table-i c = omega (arith, ap length c.requires.0, table_long)

pub returns : goal.returns
returns c = ap (λ (l : List ℕ). get_or l (c.args.x * 8 + c.args.u) 0) c.requires.0 ∙ magnitude_at c.args.x c.args.u c.requires.1.0 c.requires.1.1
