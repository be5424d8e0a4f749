-- `kernel::kernel` meets its contract: the table holds the kernel. Assumes nothing.
use native.Mathlib.Omega.{arith}
use mathlib.Core.Path.{ap, ◌∙◌}
use Prim.Native.Nat.{◌+◌, ◌*◌}
use lib.IntN.{ℤ, pos}
use mathlib.Core.List.{List}
use lib.ListN.{length, get_or}
use mir.Syntax.{w64}
use Rattle.laws.proofs.Integers.{back}
use Rattle.kernel.proofs.Tables.{table_long, kernel_at}
use Rattle.kernel.proofs.kernel.Goals as goal

pub bounds-table-i : goal.bounds-table-i
bounds-table-i c = omega (arith, ap length c.requires.0, table_long)

pub returns : goal.returns
returns c =
    back w64 _ c.result-1.given
    ∙ ap (λ (l : List ℤ). get_or l (c.args.x * 8 + c.args.u) (pos 0)) c.requires.0
    ∙ kernel_at c.args.x c.args.u c.requires.1.0 c.requires.1.1
